-- The worths by the levels ahead are those along the places.
use Rattle.std.proofs.Common.{◌≡◌, ◌∙◌, IfOk, List, ℤ, length, map, pos, ap, subst, arith}
use Rattle.std.proofs.lemmas.List.{length-map}
use Rattle.price_cert.specs.Worths.{place_value, worths_by}
use Rattle.price_cert.proofs.WorthSteps.{along_levels, levels_many}
use Rattle.price_cert.proofs.worths.worths_of.Goals as goal

pub worths_from-requires-clause-short : goal.worths_from-requires-clause-short
worths_from-requires-clause-short c =
    omega (
      arith,
      ap length c.deref.ensures.value,
      ap length c.in_ok-levels.ensures.value,
      levels_many (map place_value c.args.places.now),
      length-map c.args.places.now place_value,
      c.requires.short,
    )

pub returns : goal.returns
returns c =
    subst (λ (ws : List ℤ). IfOk c.worths_from.result (λ v. v.items ≡ ws))
    (ap (worths_by (pos 0)) (c.deref.ensures.value ∙ c.in_ok-levels.ensures.value) ∙ along_levels (pos 0) (map place_value c.args.places.now)) c.worths_from.ensures
