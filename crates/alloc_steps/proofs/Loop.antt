-- The loop that writes while it peels.
use Rattle.std.proofs.Common.{◌≡◌, ◌≤◌, ◌+◌, ℕ, List, [], ◌∷◌, ◌++◌, length, take, refl, sym, ◌∙◌, ap, append_assoc, append-nil, Option, Result, Ok, Err, arith, length-append}
use Rattle.std.proofs.Math.Seq.{take-append_seam}
use Rattle.std.proofs.lemmas.List.{map_push, length-map, take_all, get_or_at}
use Rattle.definitions.specs.Sets.{ScaledValue}
use Rattle.definitions.specs.Values.{PieceValue, PricesValue}
use Rattle.definitions.specs.Pieces.{WeightedMatrix}
use Rattle.definitions.specs.Peelings.{PeelerValue, sets_of, IsStep}
use Rattle.definitions.specs.Gives.{gives_of, pieces_of, piece_of_matrix}
use Rattle.device_core.specs.declared.faults.SinkFault.{SinkFault}
use Rattle.device_core.specs.Told.{Appended}
use Rattle.device_core.specs.Continuing.{Continued}
use Rattle.device_core.proofs.Fronts.{appended-after, front-before}
use Rattle.device_core.proofs.Continuing.{appended_continued}
use Rattle.table_text.specs.Rows.{rows_text}
use Rattle.lottery_file.proofs.WrittenRows.{pieces_next, whole_text}
use Rattle.lottery_file.specs.Written.{head_rows, piece_rows, pieces_rows, end_row, lottery_text}
use Rattle.rounding_laws.proofs.Peeling.{piece}
use Rattle.peeling.specs.Peelers.{IsPeeler}
use Rattle.peeling.proofs.Given.{Gave, gave_nothing, gave_more, gave_all, few_given}
use Rattle.alloc_steps.specs.Writing.{lottery_with, WritesPieces}

no_rows : (agents columns : List (List ℕ)) (n : ℕ) → pieces_rows agents columns n [] ≡ []
unfolding pieces_rows
no_rows agents columns n = refl

module _ (agents columns : List (List ℕ)) (shares : ScaledValue) (lists : List (List ℕ)) (prices : Option PricesValue) where
  -- the text up to the last of these pieces
  abbrev pub text_so_far : List WeightedMatrix → List ℕ
  text_so_far ps = rows_text (head_rows agents columns shares lists prices) ++ rows_text (pieces_rows agents columns 1 (pieces_of (length columns) ps))

  -- from `start` to `now` so many pieces were given, and the text up to the last of them was written, as far as no writer was refused
  pub record SoFar {T : Type 0} (start now : PeelerValue) (number : ℕ) (old new : Option (List ℕ)) (state : Result T SinkFault) : Type 0 where
    pub pieces : List WeightedMatrix
    pub gave : Gave start now pieces
    pub count : number ≡ length pieces
    pub bytes : Appended old new (text_so_far pieces) state

  -- the text up to one more piece
  text_more : (ps : List WeightedMatrix) (p : WeightedMatrix) (number : ℕ) → number ≡ length ps → text_so_far ps ++ rows_text (piece_rows agents columns (number + 1) (piece_of_matrix (length columns) p)) ≡ text_so_far (ps ++ p ∷ [])
  text_more ps p number e =
      let head : List ℕ = rows_text (head_rows agents columns shares lists prices) in
      let before : List PieceValue = pieces_of (length columns) ps in
      let one : PieceValue = piece_of_matrix (length columns) p in
      let all : List PieceValue = before ++ one ∷ [] in
      let many : length before ≡ number = length-map ps (piece_of_matrix (length columns)) ∙ sym e in
      let longer : length all ≡ number + 1 = omega (arith, length-append before (one ∷ []), many) in
      let front : take number all ≡ before = ap (λ n. take n all) (sym many) ∙ take-append_seam before (one ∷ []) in
      let more = pieces_next agents columns 1 all number one (omega (arith, longer)) (get_or_at before one [] one number many) in
      append_assoc head (rows_text (pieces_rows agents columns 1 before)) (rows_text (piece_rows agents columns (number + 1) one))
      ∙ ap (λ (t : List ℕ). head ++ t) (
      ap (λ (qs : List PieceValue). rows_text (pieces_rows agents columns 1 qs) ++ rows_text (piece_rows agents columns (number + 1) one)) (sym front)
      ∙ more
      ∙ ap (λ (qs : List PieceValue). rows_text (pieces_rows agents columns 1 qs)) (take_all (number + 1) all (omega (arith, longer)) ∙ sym (map_push (piece_of_matrix (length columns)) ps p))
      )

  -- the whole text
  text_whole : (ps : List WeightedMatrix) (number : ℕ) → number ≡ length ps → text_so_far ps ++ rows_text (end_row number ∷ []) ≡ lottery_text (lottery_with agents columns shares lists prices ps)
  unfolding end_row
  text_whole ps number e =
      append_assoc (rows_text (head_rows agents columns shares lists prices)) (rows_text (pieces_rows agents columns 1 (pieces_of (length columns) ps))) (rows_text (end_row number ∷ []))
      ∙ whole_text (lottery_with agents columns shares lists prices ps) number (e ∙ sym (length-map ps (piece_of_matrix (length columns))))

  -- the head was written
  pub so_far_start : {T : Type 0} (start : PeelerValue) (old new : Option (List ℕ)) (state : Result T SinkFault) → Appended old new (rows_text (head_rows agents columns shares lists prices)) state → SoFar start start 0 old new state
  so_far_start start old new state head =
      let same : rows_text (head_rows agents columns shares lists prices) ≡ text_so_far [] = sym (ap (λ rows. rows_text (head_rows agents columns shares lists prices) ++ rows_text rows) (no_rows agents columns 1) ∙ append-nil (rows_text (head_rows agents columns shares lists prices))) in
      record {
        pieces = [];
        gave = gave_nothing start;
        count = refl;
        bytes = rw (← same) head;
      }

  -- one more piece was given, and written unless a writer was refused
  pub so_far_next : {T U : Type 0} (start now next : PeelerValue) (number : ℕ) (old mid new : Option (List ℕ)) (state : Result T SinkFault) (state' : Result U SinkFault) (w : ℕ) (m : List ℕ) → SoFar start now number old mid state → IsStep now next w m
      → Continued mid new (rows_text (piece_rows agents columns (number + 1) (record { weight = w; gives = gives_of (length columns) m }))) state state' → SoFar start next (number + 1) old new state'
  so_far_next start now next number old mid new state state' w m s step did = record {
    pieces = s.pieces ++ piece w m ∷ [];
    gave = gave_more start now next w m s.pieces s.gave step;
    count = omega (arith, s.count, length-append s.pieces (piece w m ∷ []));
    bytes = appended_continued (text_so_far s.pieces) (rows_text (piece_rows agents columns (number + 1) (piece_of_matrix (length columns) (piece w m)))) (text_so_far (s.pieces ++ piece w m ∷ [])) old mid new state state' s.bytes did (text_more s.pieces (piece w m) number s.count);
  }

  -- all pieces were given, and a writer was refused
  pub so_far_refused : {T U : Type 0} (start now : PeelerValue) (number : ℕ) (old new : Option (List ℕ)) (fault : SinkFault) → SoFar {T = T} start now number old new (Err fault) → IsPeeler now → now.left ≡ 0
      → WritesPieces {T = U} start.columns (sets_of start) start.rest start.left (lottery_with agents columns shares lists prices) old new (Err fault)
  so_far_refused start now number old new fault s lawful none = record {
    pieces = s.pieces;
    decompose = gave_all start now s.pieces s.gave lawful none;
    bytes = front-before (text_so_far s.pieces) (rows_text (end_row number ∷ [])) (lottery_text (lottery_with agents columns shares lists prices s.pieces)) old new s.bytes (text_whole s.pieces number s.count);
  }

  -- all pieces were written, and the end followed
  pub so_far_ended : {T U : Type 0} (start now : PeelerValue) (number : ℕ) (old mid new : Option (List ℕ)) (x : T) (r : Result U SinkFault) → SoFar start now number old mid (Ok x) → IsPeeler now → now.left ≡ 0 → Appended mid new (rows_text (end_row number ∷ [])) r
      → WritesPieces start.columns (sets_of start) start.rest start.left (lottery_with agents columns shares lists prices) old new r
  so_far_ended start now number old mid new x r s lawful none did = record {
    pieces = s.pieces;
    decompose = gave_all start now s.pieces s.gave lawful none;
    bytes = appended-after (text_so_far s.pieces) (rows_text (end_row number ∷ [])) (lottery_text (lottery_with agents columns shares lists prices s.pieces)) old mid new r s.bytes did (text_whole s.pieces number s.count);
  }

  -- the number of pieces is small while something is left
  pub few_so_far : {T : Type 0} (start now : PeelerValue) (number : ℕ) (old new : Option (List ℕ)) (state : Result T SinkFault) → SoFar start now number old new state → IsPeeler start → 1 ≤ now.left → number ≤ 203000
  few_so_far start now number old new state s lawful some = omega (arith, s.count, few_given start now s.pieces s.gave lawful some)
