use Rattle.std.proofs.Common.{◌∙◌, ◌∷◌, [], sym, map, ◌<◌, ◌-◌, ◌^◌, String, Global, arith}
use Rattle.std.specs.Prelude.{string_bytes, length}
use Rattle.std.proofs.lemmas.List.{length-map, map-append}
use Rattle.std.proofs.lemmas.Str.{IsUtf8-string_bytes}
use Rattle.quota_sets.proofs.ByBytes.{has_name-map}
use Rattle.quota_sets.proofs.NameLemmas.{AreNames-push}
use Rattle.quota_sets.proofs.name_list.Names.add.Goals as goal

pub returns-then-contains-clause-repeated : goal.returns-then-contains-clause-repeated
returns-then-contains-clause-repeated c =
    let answer = rw c.as_str.ensures.value at c.contains.ensures in
    rw (← c.self.view_is) (sym c.if-contains.true ∙ answer ∙ sym (has_name-map c.self.inside.set.keys (string_bytes c.args.name)))

pub returns-then-count-clause-repeated : goal.returns-then-count-clause-repeated
returns-then-count-clause-repeated c =
    let answer = rw c.as_str.ensures.value at c.contains.ensures in
    rw (← c.self.view_is) (sym c.if-contains.false ∙ answer ∙ sym (has_name-map c.self.inside.set.keys (string_bytes c.args.name)))

pub returns-in-Err-clause-repeated : goal.returns-in-Err-clause-repeated
returns-in-Err-clause-repeated c =
    let answer = rw c.as_str.ensures.value at c.contains.ensures in
    rw (← c.self.view_is) (sym c.if-contains.false ∙ answer ∙ sym (has_name-map c.self.inside.set.keys (string_bytes c.args.name)))

pub invariant_of-self-2 : goal.invariant_of-self-2
invariant_of-self-2 c =
    let answer = rw c.as_str.ensures.value at c.contains.ensures in
    let absent = sym answer ∙ c.if-contains.false in
    let lengths = length-map {A = String Global} c.self.inside.set.keys (λ text. string_bytes text) in
    let few : length (map string_bytes c.self.inside.set.keys) < 2 ^ 32 - 1 = omega (arith, lengths, c.len-count.ensures.len, c.if-count.false) in
    rw (c.in_default.ensures.keys, absent, map-append {A = String Global} (λ text. string_bytes text) c.self.inside.set.keys (c.args.name ∷ [])) (
    AreNames-push (map string_bytes c.self.inside.set.keys) (string_bytes c.args.name) c.self.invariant (IsUtf8-string_bytes c.args.name)
    (has_name-map c.self.inside.set.keys (string_bytes c.args.name) ∙ absent) few
    )

pub returns-clause-absent : goal.returns-clause-absent
returns-clause-absent c =
    let answer = rw c.as_str.ensures.value at c.contains.ensures in
    rw (← c.self.view_is) (has_name-map c.self.inside.set.keys (string_bytes c.args.name) ∙ sym answer ∙ c.if-contains.false)

pub returns-clause-added : goal.returns-clause-added
returns-clause-added c =
    let answer = rw c.as_str.ensures.value at c.contains.ensures in
    let absent = sym answer ∙ c.if-contains.false in
    rw (← c.self.view_is, c.in_default.ensures.keys, absent) (map-append {A = String Global} (λ text. string_bytes text) c.self.inside.set.keys (c.args.name ∷ []))
