-- The worths of lists, as they are read back.
use Rattle.std.proofs.Common.{◌≡◌, ◌≢◌, ◌+◌, ◌-◌, ◌<◌, ◌≤◌, ◌^◌, ◌∙◌, ◌++◌, ◌∷◌, [], ℕ, suc, List, Option, Some, true, false, refl, sym, ap, subst, length, get_or, eqb, append_assoc, append-nil, arith}
use Rattle.std.specs.Prelude.{ℤ, pos, nat_abs, AllPairs}
use Rattle.std.specs.Fmt.{signed_decimal}
use Rattle.std.specs.List.{AllZip, list_all, list_any}
use Rattle.std.specs.Str.{is_utf8, bytes_eq}
use Rattle.std.proofs.Math.Seq.{get_or-append_seam}
use Rattle.std.proofs.lemmas.Bool.{le-leb, lt-leb, ne_eqb, false_from_ne_true}
use Rattle.std.proofs.lemmas.List.{length-append, get_or_append_left}
use Rattle.std.proofs.lemmas.Option.{get_or_from_slice_get, slice_get-get_or}
use Rattle.std.proofs.lemmas.Slice.Eq.{bytes_eq-Decides}
use Rattle.definitions.specs.Texts.{null_name, name_index}
use Rattle.definitions.specs.Lotteries.{ends_with_none}
use Rattle.table_text.proofs.KnownNames.{index-at}
use Rattle.lottery_file.specs.Said.{Before, add, with_place}
use Rattle.lottery_file.specs.Checks.{is_priced, may_follow, is_due}
use Rattle.lottery_file.specs.Lotteries.{AreLawfulNames, AreColumns, IsRanking}
use Rattle.lottery_file.specs.Written.{place_rows, worth_rows}
use Rattle.lottery_file.specs.declared.words.Word.{Word}
use Rattle.lottery_file.specs.declared.words.Word.TheVariants as word
use Rattle.lottery_file.proofs.FieldTexts.{name-text, signed-text, signed-reads}
use Rattle.lottery_file.proofs.Passing.{Passes, passes-none, passes-as, passes-append}
use Rattle.lottery_file.proofs.KindsPass.{kind-step, check-worth}
use Rattle.lottery_file.proofs.HeadPass.{after_all, after-some, index-here, agent-text}
use Rattle.lottery_file.proofs.SoundNames.{ends-known, priced-ends}

-- lists come with all rows, over columns of which `none` is the last
pub record IsListable (b : Before) : Type 0 where
  pub rows : length b.agents ≤ b.rows
  pub priced : is_priced b ≡ true
  pub agents : AreLawfulNames b.agents
  pub columns : AreColumns b.columns

worth-due : (b : Before) → IsListable b → length b.lists < length b.agents → is_due word.Worth b ≡ true
unfolding is_due
worth-due b h lt = rw (le-leb (length b.agents) b.rows h.rows, h.priced, lt-leb (length b.agents) (length b.lists) lt) refl

-- the name of a column is `none` where it is the last
last-null : (columns : List (List ℕ)) (a : ℕ) → AreColumns columns → ends_with_none columns ≡ true → a + 1 ≡ length columns → bytes_eq (get_or columns a []) null_name ≡ true
last-null columns a h ends e =
    let at : length columns - 1 ≡ a = omega arith in
    (bytes_eq-Decides (get_or columns a []) null_name).1 (ap (λ k. get_or columns k []) (sym at) ∙ (ends-known columns ends).1)

-- and no other is
other-null : (columns : List (List ℕ)) (a : ℕ) → AreColumns columns → a < length columns → a + 1 ≢ length columns → bytes_eq (get_or columns a []) null_name ≡ false
other-null columns a h lt other =
    false_from_ne_true (bytes_eq (get_or columns a []) null_name) (λ e.
    other (h.null_last a (slice_get-get_or columns a [] lt ∙ ap Some ((bytes_eq-Decides (get_or columns a []) null_name).0 e))))

-- a column that comes later is none of those before it
not-among : (a : ℕ) (before : List ℕ) → ((k : ℕ) → k < length before → get_or before k 0 ≢ a) → list_any (λ j. eqb j a) before ≡ false
not-among a [] other = refl
not-among a (x ∷ before) other = rw (ne_eqb x a (other 0 (omega arith))) (not-among a before (λ k lt. other (suc k) (omega (arith, lt))))

new-place : (before : List ℕ) (a : ℕ) (rest : List ℕ) → AllPairs (λ a b. a ≢ b) (before ++ a ∷ rest) → list_any (λ j. eqb j a) before ≡ false
new-place before a rest apart =
    not-among a before (λ k lt e.
    apart k (length before) 0 lt (omega (arith, length-append before (a ∷ rest)))
    (get_or_append_left before (a ∷ rest) 0 k lt ∙ e ∙ sym (get_or-append_seam before a rest 0)))

-- a place before others isn't that of the last column
not-last : (n : ℕ) (before : List ℕ) (a c : ℕ) (rest : List ℕ) (worths : List ℤ) → IsRanking n (before ++ a ∷ c ∷ rest) worths → a + 1 ≢ n
not-last n before a c rest worths h e =
    let list = before ++ a ∷ c ∷ rest in
    let many = length-append before (a ∷ c ∷ rest) in
    let last : get_or list (length list - 1) 0 ≡ n - 1 = get_or_from_slice_get list (length list - 1) (n - 1) 0 h.last in
    let same : a ≡ n - 1 = omega arith in
    h.places.distinct (length before) (length list - 1) 0 (omega (arith, many)) (omega (arith, many)) (get_or-append_seam before a (c ∷ rest) 0 ∙ same ∙ sym last)

-- the place that ends a list is that of the last column
is-last : (n : ℕ) (before : List ℕ) (a : ℕ) (worths : List ℤ) → a < n → IsRanking n (before ++ a ∷ []) worths → a + 1 ≡ n
is-last n before a worths lt h =
    let list = before ++ a ∷ [] in
    let at : length list - 1 ≡ length before = omega (arith, length-append before (a ∷ [])) in
    let last : get_or list (length list - 1) 0 ≡ n - 1 = get_or_from_slice_get list (length list - 1) (n - 1) 0 h.last in
    let same : a ≡ n - 1 = sym (get_or-append_seam before a [] 0) ∙ ap (λ k. get_or list k 0) (sym at) ∙ last in
    omega (arith, same)

-- a place of the open list
record IsPlace (b : Before) (agent : List ℕ) (a : ℕ) (z : ℤ) (rest : List ℕ) (more : List ℤ) : Type 0 where
  inside : a < length b.columns
  new : list_any (λ j. eqb j a) b.open_list ≡ false
  small : nat_abs z ≤ 2 ^ 40
  column : name_index b.columns (get_or b.columns a []) ≡ Some a
  text : list_all is_utf8 (agent ∷ get_or b.columns a [] ∷ signed_decimal z ∷ []) ≡ true

place-of : (b : Before) (agent : List ℕ) (a : ℕ) (z : ℤ) (rest : List ℕ) (more : List ℤ) → IsListable b → is_utf8 agent ≡ true → length b.open_worths ≡ length b.open_list
    → IsRanking (length b.columns) (b.open_list ++ a ∷ rest) (b.open_worths ++ z ∷ more) → IsPlace b agent a z rest more
place-of b agent a z rest more ready text even h =
    let many = length-append b.open_list (a ∷ rest) in
    let worths_many = length-append b.open_worths (z ∷ more) in
    let inside : a < length b.columns = subst (λ (x : ℕ). x < length b.columns) (get_or-append_seam b.open_list a rest 0) (h.places.within (length b.open_list) 0 (omega (arith, many))) in
    let small : nat_abs z ≤ 2 ^ 40 = subst (λ (x : ℤ). nat_abs x ≤ 2 ^ 40) (get_or-append_seam b.open_worths z more (pos 0)) (h.places.small (length b.open_worths) (pos 0) (omega (arith, worths_many))) in
    let name = get_or b.columns a [] in
    let named : is_utf8 name ≡ true = name-text name (ready.columns.names.lawful a [] inside) in
    record {
      inside = inside;
      new = new-place b.open_list a rest h.places.distinct;
      small = small;
      column = index-at b.columns a ready.columns.names.distinct inside;
      text = rw (text, named, signed-text z small) refl;
    }

places-as : (b : Before) (l m : List (List ℕ)) (w v : List (List ℤ)) → l ≡ m → w ≡ v
    → record b { lists = l; open_list = []; worths = w; open_worths = []; last = Some word.Worth } ≡ record b { lists = m; open_list = []; worths = v; open_worths = []; last = Some word.Worth }
places-as b l m w v e f = rw (e, f) refl

-- the places of an agent's list that come after those of the open one
places-pass : (list : List ℕ) (worths : List ℤ) (b : Before) (agent : List ℕ) → IsListable b → length b.lists < length b.agents → name_index b.agents agent ≡ Some (length b.lists) → is_utf8 agent ≡ true
    → length b.open_worths ≡ length b.open_list → 1 ≤ length list → length worths ≡ length list → IsRanking (length b.columns) (b.open_list ++ list) (b.open_worths ++ worths) → may_follow word.Worth b.last ≡ true
    → Passes b (place_rows agent b.columns list worths)
    (record b { lists = b.lists ++ (b.open_list ++ list) ∷ []; open_list = []; worths = b.worths ++ (b.open_worths ++ worths) ∷ []; open_worths = []; last = Some word.Worth })
unfolding add may_follow with_place
places-pass [] worths b agent ready room at text even some long h follows = absurd (omega arith)
places-pass (a ∷ list) [] b agent ready room at text even some long h follows = absurd (omega arith)
places-pass (a ∷ []) (z ∷ y ∷ worths) b agent ready room at text even some long h follows = absurd (omega arith)
places-pass (a ∷ c ∷ list) (z ∷ []) b agent ready room at text even some long h follows = absurd (omega arith)
places-pass (a ∷ []) (z ∷ []) b agent ready room at text even some long h follows =
    let p = place-of b agent a z [] [] ready text even h in
    let name = get_or b.columns a [] in
    let ends : ends_with_none b.columns ≡ true = sym (priced-ends b.columns ready.columns) ∙ ready.priced in
    let null : bytes_eq name null_name ≡ true = last-null b.columns a ready.columns ends (is-last (length b.columns) b.open_list a (b.open_worths ++ z ∷ []) p.inside h) in
    let d : Before = record b { lists = b.lists ++ (b.open_list ++ a ∷ []) ∷ []; open_list = []; worths = b.worths ++ (b.open_worths ++ z ∷ []) ∷ []; open_worths = []; last = Some word.Worth } in
    kind-step word.Worth b d d (agent ∷ name ∷ signed_decimal z ∷ []) [] p.text follows (worth-due b ready room)
    (check-worth b agent name (signed_decimal z) a z at p.column p.new (signed-reads z p.small) p.small)
    (rw (null, p.column, signed-reads z p.small) refl) (passes-none d)
places-pass (a ∷ c ∷ list) (z ∷ y ∷ worths) b agent ready room at text even some long h follows =
    let p = place-of b agent a z (c ∷ list) (y ∷ worths) ready text even h in
    let name = get_or b.columns a [] in
    let null : bytes_eq name null_name ≡ false = other-null b.columns a ready.columns p.inside (not-last (length b.columns) b.open_list a c list (b.open_worths ++ z ∷ y ∷ worths) h) in
    let open_list = b.open_list ++ a ∷ [] in
    let open_worths = b.open_worths ++ z ∷ [] in
    let d : Before = record b { open_list = open_list; open_worths = open_worths; last = Some word.Worth } in
    let lists_join : open_list ++ c ∷ list ≡ b.open_list ++ a ∷ c ∷ list = append_assoc b.open_list (a ∷ []) (c ∷ list) in
    let worths_join : open_worths ++ y ∷ worths ≡ b.open_worths ++ z ∷ y ∷ worths = append_assoc b.open_worths (z ∷ []) (y ∷ worths) in
    let ranked : IsRanking (length b.columns) (open_list ++ c ∷ list) (open_worths ++ y ∷ worths) = rw (lists_join, worths_join) h in
    let further = places-pass (c ∷ list) (y ∷ worths) d agent (record { rows = ready.rows; priced = ready.priced; agents = ready.agents; columns = ready.columns }) room at text
    (omega (arith, even, length-append b.open_list (a ∷ []), length-append b.open_worths (z ∷ []))) (omega arith) (omega arith) ranked refl in
    passes-as b _ _ _ (places-as b (b.lists ++ (open_list ++ c ∷ list) ∷ []) (b.lists ++ (b.open_list ++ a ∷ c ∷ list) ∷ []) (b.worths ++ (open_worths ++ y ∷ worths) ∷ []) (b.worths ++ (b.open_worths ++ z ∷ y ∷ worths) ∷ [])
    (ap (λ (l : List ℕ). b.lists ++ l ∷ []) lists_join) (ap (λ (w : List ℤ). b.worths ++ w ∷ []) worths_join))
    (kind-step word.Worth b d _ (agent ∷ name ∷ signed_decimal z ∷ []) _ p.text follows (worth-due b ready room)
    (check-worth b agent name (signed_decimal z) a z at p.column p.new (signed-reads z p.small) p.small)
    (rw (null, p.column, signed-reads z p.small) refl) further)

lists-as : (b : Before) (l m : List (List ℕ)) (w v : List (List ℤ)) (o p : Option Word) → l ≡ m → w ≡ v → o ≡ p → record b { lists = l; worths = w; last = o } ≡ record b { lists = m; worths = v; last = p }
lists-as b l m w v o p e f g = rw (e, f, g) refl

shut-as : (b : Before) (l : List ℕ) (w : List ℤ) → b.open_list ≡ [] → b.open_worths ≡ []
    → record b { lists = b.lists ++ (b.open_list ++ l) ∷ []; open_list = []; worths = b.worths ++ (b.open_worths ++ w) ∷ []; open_worths = []; last = Some word.Worth }
    ≡ record b { lists = b.lists ++ l ∷ []; worths = b.worths ++ w ∷ []; last = Some word.Worth }
shut-as b l w e f = rw (e, f) refl

-- a list has a place
list-some : (n : ℕ) (list : List ℕ) (worths : List ℤ) → IsRanking n list worths → 1 ≤ length list
list-some n [] worths h = absurd (cc h.last)
list-some n (a ∷ list) worths h = omega arith

-- the lists of the agents that come after those before
pub worths-pass : (agents before : List (List ℕ)) (lists : List (List ℕ)) (worths : List (List ℤ)) (b : Before) → b.agents ≡ before ++ agents → length b.lists ≡ length before → length lists ≡ length agents
    → AllZip (IsRanking (length b.columns)) lists worths → IsListable b → b.open_list ≡ [] → b.open_worths ≡ [] → may_follow word.Worth b.last ≡ true
    → Passes b (worth_rows agents b.columns lists worths) (record b { lists = b.lists ++ lists; worths = b.worths ++ worths; last = after_all word.Worth agents b.last })
unfolding may_follow
worths-pass [] before [] [] b e at many each ready shut shut_worths follows =
    passes-as b b _ [] (sym (lists-as b (b.lists ++ []) b.lists (b.worths ++ []) b.worths b.last b.last (append-nil b.lists) (append-nil b.worths) refl)) (passes-none b)
worths-pass [] before [] (w ∷ worths) b e at many each ready shut shut_worths follows = absurd each
worths-pass [] before (l ∷ lists) worths b e at many each ready shut shut_worths follows = absurd (omega arith)
worths-pass (agent ∷ agents) before [] worths b e at many each ready shut shut_worths follows = absurd (omega arith)
worths-pass (agent ∷ agents) before (l ∷ lists) [] b e at many each ready shut shut_worths follows = absurd each
worths-pass (agent ∷ agents) before (l ∷ lists) (w ∷ worths) b e at many each ready shut shut_worths follows =
    let room : length b.lists < length b.agents = omega (arith, at, ap length e, length-append before (agent ∷ agents)) in
    let index : name_index b.agents agent ≡ Some (length b.lists) = index-here b.agents before agent agents e ready.agents ∙ ap Some (sym at) in
    let text : is_utf8 agent ≡ true = agent-text b.agents before agent agents e ready.agents in
    let ranked : IsRanking (length b.columns) (b.open_list ++ l) (b.open_worths ++ w) = rw (shut, shut_worths) each.0 in
    let even : length b.open_worths ≡ length b.open_list = rw (shut, shut_worths) refl in
    let c : Before = record b { lists = b.lists ++ (b.open_list ++ l) ∷ []; open_list = []; worths = b.worths ++ (b.open_worths ++ w) ∷ []; open_worths = []; last = Some word.Worth } in
    let d : Before = record b { lists = b.lists ++ l ∷ []; worths = b.worths ++ w ∷ []; last = Some word.Worth } in
    let same : c ≡ d = shut-as b l w shut shut_worths in
    let first = places-pass l w b agent ready room index text even (list-some (length b.columns) l w each.0) each.0.places.many ranked follows in
    let push : (before ++ agent ∷ []) ++ agents ≡ before ++ agent ∷ agents = append_assoc before (agent ∷ []) agents in
    let further = worths-pass agents (before ++ agent ∷ []) lists worths d (e ∙ sym push) (omega (arith, at, length-append before (agent ∷ []), length-append b.lists (l ∷ []))) (omega arith) each.1
    (record { rows = ready.rows; priced = ready.priced; agents = ready.agents; columns = ready.columns }) shut shut_worths refl in
    passes-as b _ _ _ (lists-as b ((b.lists ++ l ∷ []) ++ lists) (b.lists ++ l ∷ lists) ((b.worths ++ w ∷ []) ++ worths) (b.worths ++ w ∷ worths) (after_all word.Worth agents (Some word.Worth)) (Some word.Worth)
    (append_assoc b.lists (l ∷ []) lists) (append_assoc b.worths (w ∷ []) worths) (after-some word.Worth agents))
    (passes-append b d _ _ _ (passes-as b c d _ same first) further)
