-- The pieces and the end, as they are read back.
use Rattle.std.proofs.Common.{◌≡◌, ◌+◌, ◌<◌, ◌≤◌, ◌^◌, ◌∙◌, ◌++◌, ◌∷◌, [], ℕ, suc, List, Option, Some, Bool, true, false, ◌||◌, ◌⊎◌, refl, sym, ap, subst, length, get_or, map, append_assoc, append-nil, arith, inl, inr}
use Rattle.std.specs.Prelude.{codes, decimal, not, nat_lt, nat_le, All, AllPairs}
use Rattle.std.specs.List.{list_all}
use Rattle.std.specs.Str.{is_utf8}
use Rattle.std.proofs.Math.Seq.{get_or-append_seam}
use Rattle.std.proofs.lemmas.Bool.{le-leb, lt-ltb, eq-eqb, cases_Bool}
use Rattle.std.proofs.lemmas.List.{length-append}
use Rattle.std.proofs.lemmas.List.Elements.{All-head, All-tail}
use Rattle.std.proofs.lemmas.List.Sums.{sum_by-cons, sum_by_push}
use Rattle.definitions.specs.Texts.{number}
use Rattle.definitions.specs.Values.{PieceValue}
use Rattle.definitions.specs.Pieces.{AreGives}
use Rattle.definitions.specs.declared.Give.{Give}
use Rattle.table_text.proofs.KnownNames.{index-at}
use Rattle.lottery_file.specs.Said.{Before, add, onto_last}
use Rattle.lottery_file.specs.Checks.{is_priced, may_follow, is_due, weight_sum, comes_after, follows_gives, follows_last}
use Rattle.lottery_file.specs.Lotteries.{AreLawfulNames, AreColumns}
use Rattle.lottery_file.specs.Written.{give_row, piece_rows, pieces_rows, end_row}
use Rattle.lottery_file.specs.declared.words.Word.{Word}
use Rattle.lottery_file.specs.declared.words.Word.TheVariants as word
use Rattle.table_text.proofs.RoundTrips.{count_of-decimal}
use Rattle.lottery_file.proofs.FieldTexts.{decimal-text, name-text}
use Rattle.lottery_file.proofs.Passing.{Passes, passes-none, passes-as, passes-append}
use Rattle.lottery_file.proofs.KindsPass.{kind-step, check-piece, check-give, check-end}
use Rattle.lottery_file.proofs.SoundPieces.{Precedes}
use Rattle.lottery_file.proofs.HeadPass.{after_all, after-some}

onto-end : (g : Give) (ps : List PieceValue) (p : PieceValue) → onto_last g (ps ++ p ∷ []) ≡ ps ++ (record p { gives = p.gives ++ g ∷ [] }) ∷ []
onto-end g [] p = refl
onto-end g (q ∷ []) p = refl
onto-end g (q ∷ r ∷ ps) p = ap (λ (t : List PieceValue). q ∷ t) (onto-end g (r ∷ ps) p)

follows-end : (i j : ℕ) (ps : List PieceValue) (p : PieceValue) → follows_last i j (ps ++ p ∷ []) ≡ follows_gives i j p.gives
follows-end i j [] p = refl
follows-end i j (q ∷ []) p = refl
follows-end i j (q ∷ r ∷ ps) p = follows-end i j (r ∷ ps) p

after-it : (g h : Give) → Precedes g h → comes_after h.agent h.object g ≡ true
after-it g h (inl lt) = rw (lt-ltb g.agent h.agent lt) refl
after-it g h (inr same) = elim (cases_Bool (nat_lt g.agent h.agent)) [
  | inl lt ↦ rw lt refl
  | inr ge ↦ rw (ge, eq-eqb g.agent h.agent same.0, lt-ltb g.object h.object same.1) refl
]

-- a give comes after the last of those before it
follows-before : (before : List Give) (g : Give) (rest : List Give) → AllPairs Precedes (before ++ g ∷ rest) → follows_gives g.agent g.object before ≡ true
follows-before [] g rest rise = refl
follows-before (x ∷ []) g rest rise = after-it x g (rise 0 1 g (omega arith) (omega arith))
follows-before (x ∷ y ∷ before) g rest rise = follows-before (y ∷ before) g rest (λ i j d lt within. rise (suc i) (suc j) d (omega (arith, lt)) (omega (arith, within)))

-- names under which agents and columns are found
pub record AreNamed (b : Before) : Type 0 where
  pub agents : AreLawfulNames b.agents
  pub columns : AreColumns b.columns

gives-as : (b : Before) (ps qs : List PieceValue) (l m : Option Word) → ps ≡ qs → l ≡ m → record b { pieces = ps; last = l } ≡ record b { pieces = qs; last = m }
gives-as b ps qs l m e f = rw (e, f) refl

-- the gives of the last piece that come after those it has
gives-pass : (gs : List Give) (p : PieceValue) (ps : List PieceValue) (b : Before) → b.pieces ≡ ps ++ p ∷ [] → AreNamed b → AreGives (length b.agents) (length b.columns) (p.gives ++ gs)
    → may_follow word.Give b.last ≡ true
    → Passes b (map (give_row b.agents b.columns) gs) (record b { pieces = ps ++ (record p { gives = p.gives ++ gs }) ∷ []; last = after_all word.Give gs b.last })
unfolding add may_follow is_due
gives-pass [] p ps b e named h follows =
    let same : b.pieces ≡ ps ++ (record p { gives = p.gives ++ [] }) ∷ [] = rw (append-nil p.gives) e in
    passes-as b b _ [] (gives-as b b.pieces (ps ++ (record p { gives = p.gives ++ [] }) ∷ []) b.last b.last same refl) (passes-none b)
gives-pass (g ∷ gs) p ps b e named h follows =
    let many = length-append p.gives (g ∷ gs) in
    let is : (g.agent < length b.agents) × (g.object < length b.columns) × (1 ≤ g.count) × (g.count ≤ 1000) =
    subst (λ (x : Give). (x.agent < length b.agents) × (x.object < length b.columns) × (1 ≤ x.count) × (x.count ≤ 1000)) (get_or-append_seam p.gives g gs g) (h.0 (length p.gives) g (omega (arith, many))) in
    let agent = get_or b.agents g.agent [] in
    let column = get_or b.columns g.object [] in
    let at = index-at b.agents g.agent named.agents.distinct is.0 in
    let place = index-at b.columns g.object named.columns.names.distinct is.1 in
    let later : follows_last g.agent g.object b.pieces ≡ true = ap (follows_last g.agent g.object) e ∙ follows-end g.agent g.object ps p ∙ follows-before p.gives g gs h.1 in
    let reads : number (decimal g.count) ≡ g.count = rw (count_of-decimal g.count (omega (arith, is.3))) refl in
    let texts : list_all is_utf8 (agent ∷ column ∷ decimal g.count ∷ []) ≡ true =
    rw (name-text agent (named.agents.lawful g.agent [] is.0), name-text column (named.columns.names.lawful g.object [] is.1), decimal-text g.count (omega (arith, is.3))) refl in
    let q : PieceValue = record p { gives = p.gives ++ g ∷ [] } in
    let c : Before = record b { pieces = ps ++ q ∷ []; last = Some word.Give } in
    let says : record (add word.Give (codes "give" ∷ agent ∷ column ∷ decimal g.count ∷ []) b) { last = Some word.Give } ≡ c =
    rw (at, place, reads) (ap (λ (qs : List PieceValue). record b { pieces = qs; last = Some word.Give }) (ap (onto_last g) e ∙ onto-end g ps p)) in
    let push : (p.gives ++ g ∷ []) ++ gs ≡ p.gives ++ g ∷ gs = append_assoc p.gives (g ∷ []) gs in
    let further = gives-pass gs q ps c refl (record { agents = named.agents; columns = named.columns }) (subst (AreGives (length b.agents) (length b.columns)) (sym push) h) refl in
    passes-as b _ _ _ (gives-as b (ps ++ (record q { gives = q.gives ++ gs }) ∷ []) (ps ++ (record p { gives = p.gives ++ g ∷ gs }) ∷ []) (after_all word.Give gs (Some word.Give)) (Some word.Give)
    (ap (λ (x : List Give). ps ++ (record p { gives = x }) ∷ []) push) (after-some word.Give gs))
    (kind-step word.Give b c _ (agent ∷ column ∷ decimal g.count ∷ []) _ texts follows refl (check-give b agent column g.agent g.object g.count at place later is.2 is.3) says further)

-- pieces come after all rows, and after all lists where there are prices
pub record IsReady (b : Before) : Type 0 where
  pub named : AreNamed b
  pub rows : length b.agents ≤ b.rows
  pub lists : (is_priced b ≡ false) ⊎ (length b.agents ≤ length b.lists)

or-true : (t : Bool) → (t || true) ≡ true
or-true true = refl
or-true false = refl

piece-due : (b : Before) → IsReady b → is_due word.Piece b ≡ true
unfolding is_due
piece-due b h = rw (le-leb (length b.agents) b.rows h.rows) (lists b h.lists)
  where
    lists : (b : Before) → (is_priced b ≡ false) ⊎ (length b.agents ≤ length b.lists) → (not (is_priced b) || nat_le (length b.agents) (length b.lists)) ≡ true
    lists b (inl none) = rw none refl
    lists b (inr all) = rw (le-leb (length b.agents) (length b.lists) all) (or-true (not (is_priced b)))

-- the kind of the last record after pieces
abbrev pub last_of : List PieceValue → Option Word → Option Word
last_of [] last = last
last_of (p ∷ ps) last = last_of ps (after_all word.Give p.gives (Some word.Piece))

pub after-gives : (w : Word) (gs : List Give) → may_follow w (Some word.Piece) ≡ true → may_follow w (Some word.Give) ≡ true → may_follow w (after_all word.Give gs (Some word.Piece)) ≡ true
after-gives w [] piece give = piece
after-gives w (g ∷ gs) piece give = give

-- what may come after a piece and after a give may come after pieces
pub after-pieces : (w : Word) (ps : List PieceValue) (last : Option Word) → may_follow w (Some word.Piece) ≡ true → may_follow w (Some word.Give) ≡ true → may_follow w last ≡ true → may_follow w (last_of ps last) ≡ true
after-pieces w [] last piece give follows = follows
after-pieces w (p ∷ ps) last piece give follows = after-pieces w ps (after_all word.Give p.gives (Some word.Piece)) piece give (after-gives w p.gives piece give)

-- the pieces from this number on
pub pieces-pass : (ps : List PieceValue) (n : ℕ) (b : Before) → n ≡ length b.pieces + 1 → length b.pieces + length ps < 2 ^ 128 → All (λ p. 1 ≤ p.weight) ps
    → weight_sum b.pieces + weight_sum ps ≤ b.denominator → b.denominator ≤ 2 ^ 116 → All (λ p. AreGives (length b.agents) (length b.columns) p.gives) ps → IsReady b → may_follow word.Piece b.last ≡ true
    → Passes b (pieces_rows b.agents b.columns n ps) (record b { pieces = b.pieces ++ ps; last = last_of ps b.last })
unfolding add may_follow pieces_rows piece_rows
pieces-pass [] n b at few heavy within small gives ready follows = passes-as b b _ [] (sym (gives-as b (b.pieces ++ []) b.pieces b.last b.last (append-nil b.pieces) refl)) (passes-none b)
pieces-pass (p ∷ ps) n b at few heavy within small gives ready follows =
    let weight : PieceValue → ℕ = λ q. q.weight in
    let one : 1 ≤ p.weight = All-head (λ (q : PieceValue). 1 ≤ q.weight) p ps heavy in
    let lawful = All-head (λ (q : PieceValue). AreGives (length b.agents) (length b.columns) q.gives) p ps gives in
    let all : weight_sum (p ∷ ps) ≡ p.weight + weight_sum ps = sum_by-cons weight p ps in
    let blank : PieceValue = record { weight = p.weight; gives = [] } in
    let c : Before = record b { pieces = b.pieces ++ blank ∷ []; last = Some word.Piece } in
    let d : Before = record b { pieces = b.pieces ++ p ∷ []; last = after_all word.Give p.gives (Some word.Piece) } in
    let texts : list_all is_utf8 (decimal n ∷ decimal p.weight ∷ []) ≡ true = rw (decimal-text n (omega (arith, at, few)), decimal-text p.weight (omega (arith, all, within, small))) refl in
    let reads : number (decimal p.weight) ≡ p.weight = rw (count_of-decimal p.weight (omega (arith, all, within, small))) refl in
    let passed = check-piece b n p.weight at (omega (arith, at, few)) one (omega (arith, all, within, small)) (omega (arith, all, within)) in
    let says : record (add word.Piece (codes "piece" ∷ decimal n ∷ decimal p.weight ∷ []) b) { last = Some word.Piece } ≡ c = rw reads refl in
    let given : Passes c (map (give_row b.agents b.columns) p.gives) d = gives-pass p.gives blank b.pieces c refl (record { agents = ready.named.agents; columns = ready.named.columns }) lawful refl in
    let first : Passes b (piece_rows b.agents b.columns n p) d = kind-step word.Piece b c d (decimal n ∷ decimal p.weight ∷ []) _ texts follows (piece-due b ready) passed says given in
    let more = length-append b.pieces (p ∷ []) in
    let weights : weight_sum (b.pieces ++ p ∷ []) ≡ weight_sum b.pieces + p.weight = sum_by_push weight b.pieces p in
    let further = pieces-pass ps (n + 1) d (omega (arith, at, more)) (omega (arith, few, more)) (All-tail (λ (q : PieceValue). 1 ≤ q.weight) p ps heavy) (omega (arith, weights, all, within)) small
    (All-tail (λ (q : PieceValue). AreGives (length b.agents) (length b.columns) q.gives) p ps gives) (record { named = record { agents = ready.named.agents; columns = ready.named.columns }; rows = ready.rows; lists = ready.lists })
    (after-gives word.Piece p.gives refl refl) in
    passes-as b _ _ _ (gives-as b ((b.pieces ++ p ∷ []) ++ ps) (b.pieces ++ p ∷ ps) (last_of ps (after_all word.Give p.gives (Some word.Piece))) (last_of ps (after_all word.Give p.gives (Some word.Piece))) (append_assoc b.pieces (p ∷ []) ps) refl)
    (passes-append b d _ _ _ first further)

-- the end of a lottery whose weights make up the denominator
pub end-pass : (b : Before) (k : ℕ) → k ≡ length b.pieces → k < 2 ^ 128 → weight_sum b.pieces ≡ b.denominator → may_follow word.End b.last ≡ true → Passes b (end_row k ∷ []) (record b { last = Some word.End })
unfolding add end_row is_due
end-pass b k at small whole follows =
    let d : Before = record b { last = Some word.End } in
    kind-step word.End b d d (decimal k ∷ []) [] (rw (decimal-text k small) refl) follows refl (check-end b k at small whole) refl (passes-none d)
