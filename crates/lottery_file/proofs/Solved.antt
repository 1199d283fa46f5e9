-- A lottery that solves a problem is lawful, where its names are and its prices and worths are small.
use Rattle.std.proofs.Common.{◌≡◌, ◌+◌, ◌-◌, ◌<◌, ◌≤◌, ◌^◌, ◌∙◌, ◌++◌, ◌∷◌, [], ℕ, suc, List, Option, Some, None, true, false, refl, sym, ap, subst, length, get_or, arith, All}
use Rattle.std.specs.Prelude.{ℤ, MatchOption, nat_abs, is_none}
use Rattle.std.specs.List.{AllZip}
use Rattle.std.proofs.lemmas.Bool.Decides.{Decides-eqb}
use Rattle.std.proofs.lemmas.List.{length-take, length_push}
use Rattle.std.proofs.lemmas.List.Elements.{All-head, All-tail}
use Rattle.std.proofs.lemmas.Map.Made.{AllPairs-from_IsDistinct}
use Rattle.std.proofs.lemmas.Option.{unwrap_or-slice_get}
use Rattle.definitions.specs.Texts.{null_name, has_name, name_index}
use Rattle.definitions.specs.Sets.{FamilyValue}
use Rattle.definitions.specs.Lotteries.{LotteryValue, SolvesFor}
use Rattle.definitions.specs.Values.{ProblemValue, PricesValue, IsListUpTo}
use Rattle.table_text.proofs.KnownNames.{name-free}
use Rattle.lottery_file.specs.Checks.{check_column_name}
use Rattle.lottery_file.specs.Lotteries.{AreLawfulNames, AreColumns, IsLawfulLottery, IsPriced, IsRanking}
use Rattle.lottery_file.proofs.FieldTexts.{null-name}
use Rattle.lottery_file.proofs.Shapes.{plain-columns, pieces-some}
use Rattle.lottery_file.proofs.SoundNames.{columns-push}

-- `none` may come after names without it
null-passes : (names : List (List ℕ)) → is_none (name_index names null_name) ≡ true → check_column_name names null_name ≡ None
unfolding check_column_name
null-passes names free = rw (null-name, free) refl

-- columns without `none`, and then it
columns-closed : (names : List (List ℕ)) → AreLawfulNames names → has_name names null_name ≡ false → length names ≤ 200 → AreColumns (names ++ null_name ∷ [])
columns-closed names h without few = columns-push names null_name (null-passes names (name-free names null_name without)) (plain-columns names h without few)

-- the worths of a list are small
abbrev pub AreSmall : List ℤ → Type 0
AreSmall worths = All (λ u. nat_abs u ≤ 2 ^ 40) worths

ranking : (none : ℕ) (list : List ℕ) (worths : List ℤ) → IsListUpTo none list → AreSmall worths → length worths ≡ length list → IsRanking (none + 1) list worths
ranking none list worths h small many =
    let last : none + 1 - 1 ≡ none = omega arith in
    record {
      places = record {
        distinct = AllPairs-from_IsDistinct Decides-eqb list h.apart;
        within = λ k d lt. (let known = h.known k d lt in omega (arith, known));
        many = many;
        small = small;
      };
      last = rw last h.last;
    }

rankings : (none : ℕ) (lists : List (List ℕ)) (worths : List (List ℤ)) → All (IsListUpTo none) lists → All AreSmall worths → length worths ≡ length lists
    → ((i : ℕ) → i < length lists → length (get_or worths i []) ≡ length (get_or lists i [])) → AllZip (IsRanking (none + 1)) lists worths
rankings none [] [] h small many each = tt
rankings none [] (w ∷ worths) h small many each = absurd (omega arith)
rankings none (l ∷ lists) [] h small many each = absurd (omega arith)
rankings none (l ∷ lists) (w ∷ worths) h small many each = (
  ranking none l w (All-head (IsListUpTo none) l lists h) (All-head AreSmall w worths small) (each 0 (omega arith)),
  rankings none lists worths (All-tail (IsListUpTo none) l lists h) (All-tail AreSmall w worths small) (omega (arith, many)) (λ i lt. each (suc i) (omega (arith, lt))),
)

priced-as : (l : LotteryValue) (o : Option PricesValue) (y : PricesValue) → o ≡ Some y → IsPriced l y → MatchOption o (l.lists ≡ []) (IsPriced l)
priced-as l o y e p = rw e p

-- a lottery that solves a problem over lawful names is lawful
pub solves-lawful : (f : FamilyValue) (p : ProblemValue) (l : LotteryValue) (s : SolvesFor f p l) → l.design ≡ None
    → AreLawfulNames p.agents → AreLawfulNames p.objects → has_name p.objects null_name ≡ false
    → All (λ y. y ≤ 2 ^ 40) s.prices.price → All AreSmall s.prices.worth → IsLawfulLottery l
solves-lawful f p l s design agents objects without prices_small worths_small =
    let problem = s.problem in
    let shape = s.certified.shape in
    let many : length l.lists ≡ length l.agents = ap length s.lists ∙ problem.lists_many ∙ sym (ap length s.agents) in
    let wide : length p.objects + 1 ≡ length l.columns = sym (ap length s.columns ∙ length_push p.objects null_name) in
    let each : (i : ℕ) → i < length p.lists → length (get_or s.prices.worth i []) ≡ length (get_or p.lists i []) =
    λ i lt. ap length (sym (unwrap_or-slice_get s.prices.worth i [])) ∙ shape.places i lt ∙ ap length (unwrap_or-slice_get p.lists i []) in
    let lists : AllZip (IsRanking (length l.columns)) l.lists s.prices.worth =
    subst (λ n. AllZip (IsRanking n) l.lists s.prices.worth) wide
    (subst (λ (ls : List (List ℕ)). AllZip (IsRanking (length p.objects + 1)) ls s.prices.worth) (sym s.lists)
    (rankings (length p.objects) p.lists s.prices.worth problem.lists worths_small shape.lists each)) in
    let priced : IsPriced l s.prices = record {
      prices = record { many = omega (arith, shape.prices, length-take p.stated p.family.sets, problem.stated_limit); small = prices_small };
      many = many;
      lists = lists;
    } in
    record {
      lottery = s.lottery;
      agents = rw s.agents agents;
      agents_many = rw s.agents (problem.agents_some, problem.agents_limit);
      columns = rw s.columns (columns-closed p.objects objects without problem.objects_limit);
      priced = priced-as l l.prices s.prices s.priced priced;
      pieces = pieces-some l.pieces l.shares.denominator s.lottery.adds_up s.lottery.shares.one;
      design = design;
    }
