use Rattle.std.proofs.Common.{◌≡◌, ℕ, List, [], Option, None, ap, ◌∙◌}
use Rattle.std.specs.Prelude.{slice_get, unwrap_or}
use Rattle.std.proofs.lemmas.Option.{unwrap_or-slice_get}
use Rattle.quota_sets.proofs.name_list.Names.name_at.Goals as goal

pub returns-in-None : goal.returns-in-None
returns-in-None c =
    let past : None ≡ slice_get c.args.self.now c.args.place = c.in-None.ensures.value in
    ap (λ (name : Option (List ℕ)). unwrap_or name []) past ∙ unwrap_or-slice_get c.args.self.now c.args.place []
