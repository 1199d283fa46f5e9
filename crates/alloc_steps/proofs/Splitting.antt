-- The lottery that a decomposition of given shares makes.
use Rattle.std.proofs.Common.{◌≡◌, ℕ, List, [], length, Option, None, Result, Ok, Err, inr, refl, sym, ◌∙◌, subst, false}
use Rattle.std.specs.Result.{IfOk, MatchResult, is_ok}
use Rattle.definitions.specs.Sets.{FamilyValue, ScaledValue, IsScaledMatrix, cells_of}
use Rattle.definitions.specs.Values.{SharesValue}
use Rattle.definitions.specs.Scaling.{IsScaled}
use Rattle.definitions.specs.Pieces.{WeightedMatrix, Decomposes}
use Rattle.definitions.specs.Peelings.{PeelerValue, sets_of}
use Rattle.definitions.specs.Lotteries.{Splits, ends_with_none}
use Rattle.definitions.proofs.Gives.{AreShaped}
use Rattle.device_core.specs.declared.faults.SinkFault.{SinkFault}
use Rattle.peeling.specs.Peelers.{IsPeeler, IsStart}
use Rattle.alloc_steps.specs.Writing.{lottery_with, WritesPieces, WritesLottery}
use Rattle.alloc_steps.proofs.Decomposed.{decompose_with, decomposes_at, lawful_with, shaped_at}

-- what is known of a value whose error was renamed
pub kept_at : {T E D : Type 0} (P : T → Type 0) (Q : E → Type 0) (r : Result T E) (s : Result T D) (x : T)
    → IfOk r P → MatchResult r (λ v. s ≡ Ok v) Q → is_ok s ≡ is_ok r → s ≡ Ok x → P x
kept_at P Q (Ok v) s x p is same was = let one : v ≡ x = cc in subst P one p
kept_at P Q (Err e) s x p is same was = absurd (cc (rw was at same))

-- pieces that decompose given shares make a lottery that splits them
pub splits_with : (given : SharesValue) (f : FamilyValue) (x : ScaledValue) (ps : List WeightedMatrix) → IsScaled given x → IsScaledMatrix x → ends_with_none given.objects ≡ false → AreShaped x.agents x.columns ps
    → Decomposes x.columns (cells_of f) x.units x.denominator ps → Splits given f (lottery_with given.agents given.objects x [] None ps)
splits_with given f x ps scaled matrix plain shaped decompose = record {
  lottery = lawful_with given.agents given.objects x [] None ps matrix scaled.agents scaled.columns
      (inr (record { named = plain; prices = refl; lists = refl })) shaped (cells_of f) decompose;
  agents = refl;
  columns = refl;
  scaled = scaled;
  plain = (refl, refl);
  pieces = decompose_with given.agents given.objects x [] None ps scaled.columns shaped (cells_of f) decompose;
}

-- the lottery that is written with the pieces of such a decomposition
pub split_written : {K T : Type 0} (written : K → Option (List ℕ)) (given : SharesValue) (f : FamilyValue) (x : ScaledValue) (v : PeelerValue) (old new : K) (r : Result T SinkFault) → IsScaled given x → IsScaledMatrix x
    → ends_with_none given.objects ≡ false → f.agents ≡ length given.agents → f.columns ≡ length given.objects → IsStart f x v → IsPeeler v
    → WritesPieces v.columns (sets_of v) v.rest v.left (lottery_with given.agents given.objects x [] None) (written old) (written new) r → WritesLottery written (Splits given f) old new r
split_written written given f x v old new r scaled matrix plain agents columns start lawful w =
    let wide : x.columns ≡ f.columns = scaled.columns ∙ sym columns in
    let shaped : AreShaped x.agents x.columns w.pieces = shaped_at f x v w.pieces start wide w.decompose lawful (scaled.agents ∙ sym agents) in
    record {
      lottery = lottery_with given.agents given.objects x [] None w.pieces;
      plain = refl;
      has = splits_with given f x w.pieces scaled matrix plain shaped (decomposes_at f x v w.pieces start wide w.decompose);
      bytes = w.bytes;
    }
