use Rattle.std.proofs.Common.{◌≡◌, ◌∙◌, ◌∷◌, [], sym, map, false, String, Global}
use Rattle.std.specs.Prelude.{string_bytes}
use Rattle.std.proofs.lemmas.List.{map-append}
use Rattle.std.proofs.lemmas.Str.{IsUtf8-string_bytes}
use Rattle.definitions.specs.Texts.{has_name}
use Rattle.quota_sets.proofs.ByBytes.{has_name-map}
use Rattle.quota_sets.proofs.NameLemmas.{AreNames-push}
use Rattle.quota_sets.proofs.name_list.Names.add_copy.Goals as goal

pub invariant_of-self-2 : goal.invariant_of-self-2
invariant_of-self-2 c =
    let absent : has_name (map string_bytes c.self.inside.set.keys) (string_bytes c.in_ok-copy.copy) ≡ false = rw (c.in_ok-copy.ensures.ok, c.self.view_is) c.requires.fresh in
    let new = sym (has_name-map c.self.inside.set.keys (string_bytes c.in_ok-copy.copy)) ∙ absent in
    rw (c.in_ok-insert_full.ensures.keys, new, map-append {A = String Global} (λ text. string_bytes text) c.self.inside.set.keys (c.in_ok-copy.copy ∷ [])) (
    AreNames-push (map string_bytes c.self.inside.set.keys) (string_bytes c.in_ok-copy.copy) c.self.invariant (IsUtf8-string_bytes c.in_ok-copy.copy) absent (rw c.self.view_is c.requires.room)
    )

pub returns-clause-ok : goal.returns-clause-ok
returns-clause-ok c =
    let absent : has_name (map string_bytes c.self.inside.set.keys) (string_bytes c.in_ok-copy.copy) ≡ false = rw (c.in_ok-copy.ensures.ok, c.self.view_is) c.requires.fresh in
    let new = sym (has_name-map c.self.inside.set.keys (string_bytes c.in_ok-copy.copy)) ∙ absent in
    rw (← c.self.view_is, c.in_ok-insert_full.ensures.keys, new, ← c.in_ok-copy.ensures.ok) (map-append {A = String Global} (λ text. string_bytes text) c.self.inside.set.keys (c.in_ok-copy.copy ∷ []))
