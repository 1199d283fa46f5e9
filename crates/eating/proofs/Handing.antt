-- What the eater hands out.
use Rattle.std.proofs.Common.{◌≡◌, ℕ, ◌+◌, ◌*◌, ◌<◌, ◌≤◌, List, length, take, drop, ap, sym, ◌∙◌, subst, arith}
use Rattle.std.specs.Prelude.{slice_index, ◌^◌}
use Rattle.definitions.specs.Sets.{IsScaledMatrix}
use Rattle.definitions.specs.Values.{Market, ProblemValue, IsProblem, column_count, market_of, limits_of}
use Rattle.definitions.specs.Eaters.{EaterValue, market_of_eater}
use Rattle.definitions.specs.Eating.{full_at, share, IsEatingTable, IsLowestTerms}
use Rattle.definitions.proofs.Families.{stated_count}
use Rattle.eating_laws.proofs.Full.{full_le}
use Rattle.eating_laws.proofs.Limits.{agent_count}
use Rattle.eating.specs.declared.eater.Eater.TheInside.{Inside}
use Rattle.eating.specs.Answers.{IsEatenBy}
use Rattle.eating.specs.Eaten.{EatenValue, IsEatenValue}
use Rattle.eating.specs.Plan.{LineValue, AreLinesOf}
use Rattle.eating.specs.Made.{IsMade, eater_value}
use Rattle.eating.specs.Runs.{IsRunOf, IsStart}
use Rattle.eating.specs.Serving.{AreListsWithin, IsServed, IsUncappedOffLists}
use Rattle.eating.proofs.Starting.{each_cell}
use Rattle.eating.proofs.Finishing.{problem_small, problem_served, lists_within, off_lists, matrix_lawful, value_eaten, value_lawful}

-- what was written with other names of the lines and the moments
pub served_read : (columns U : ℕ) (lines lines' : List LineValue) (e e' xs : List ℕ) → lines' ≡ lines → e' ≡ e
    → ((market : Market) → IsServed market lines' e' → (i a : ℕ) → i < length lines' → a < columns → slice_index xs (i * columns + a) ≡ share market U e' i a)
    → (market : Market) → IsServed market lines e → (i a : ℕ) → i < length lines → a < columns → slice_index xs (i * columns + a) ≡ share market U e i a
served_read columns U lines lines' e e' xs p q h =
    subst (λ l. (market : Market) → IsServed market l e → (i a : ℕ) → i < length l → a < columns → slice_index xs (i * columns + a) ≡ share market U e i a) p
    (subst (λ m. (market : Market) → IsServed market lines' m → (i a : ℕ) → i < length lines' → a < columns → slice_index xs (i * columns + a) ≡ share market U m i a) q h)

pub capped_read : (columns U first : ℕ) (lines lines' : List LineValue) (e e' xs : List ℕ) → lines' ≡ lines → e' ≡ e
    → ((market : Market) → IsServed market lines' e' → IsUncappedOffLists market first → (i a : ℕ) → i < length lines' → a < columns → slice_index xs (i * columns + a) ≡ full_at U (drop first market.limits) (drop first e') i a)
    → (market : Market) → IsServed market lines e → IsUncappedOffLists market first → (i a : ℕ) → i < length lines → a < columns → slice_index xs (i * columns + a) ≡ full_at U (drop first market.limits) (drop first e) i a
capped_read columns U first lines lines' e e' xs p q h =
    subst (λ l. (market : Market) → IsServed market l e → IsUncappedOffLists market first → (i a : ℕ) → i < length l → a < columns → slice_index xs (i * columns + a) ≡ full_at U (drop first market.limits) (drop first e) i a) p
    (subst (λ m. (market : Market) → IsServed market lines' m → IsUncappedOffLists market first → (i a : ℕ) → i < length lines' → a < columns → slice_index xs (i * columns + a) ≡ full_at U (drop first market.limits) (drop first m) i a) q h)

-- what an eater shows
abbrev pub shown : Inside → EaterValue
shown s = eater_value s.columns s.stated.items s.lines.items

-- and what it has in its problem
pub record IsEaterOf (p : ProblemValue) (s : Inside) : Type 0 where
  pub stated : length s.stated.items ≡ p.stated
  pub columns : s.columns ≡ column_count p
  pub lines : AreLinesOf (market_of p) s.lines.items
  pub start : IsStart (market_of p) (length s.lines.items) s.progress
  pub units : length s.units.items ≡ length p.agents * column_count p
  pub caps : length s.caps.items ≡ length p.agents * column_count p

pub eater_of : (s : Inside) (made : IsMade (shown s) s.lines.items s.progress s.units.items s.caps.items) → IsEaterOf made.kept.problem s
eater_of s made = (let is = made.kept.kept in record {
  stated = ap (λ (v : EaterValue). length v.stated) is ∙ stated_count made.kept.problem made.kept.lawful;
  columns = ap (λ (v : EaterValue). v.columns) is;
  lines = subst (λ v. AreLinesOf (market_of_eater v) s.lines.items) is made.lines_of;
  start = subst (λ v. IsStart (market_of_eater v) (length s.lines.items) s.progress) is made.start;
  units = made.units_many ∙ ap (λ (v : EaterValue). v.agents * v.columns) is;
  caps = made.caps_many ∙ ap (λ (v : EaterValue). v.agents * v.columns) is;
})

module _ (p : ProblemValue) (h : IsProblem p) (s : Inside) (eater : IsEaterOf p s) where
  pub eater_run : IsRunOf (market_of p) s.lines.items s.progress
  eater_run = record { lines_of = eater.lines; small = problem_small p h; start = eater.start }

  pub eater_lists : AreListsWithin s.columns s.lines.items
  eater_lists = subst (λ n. AreListsWithin n s.lines.items) (sym eater.columns) (lists_within p h s.lines.items eater.lines)

  pub eater_many : length s.lines.items ≡ length p.agents
  eater_many = eater.lines.many ∙ agent_count p h

  pub eater_cells : length p.agents * column_count p ≡ length s.lines.items * s.columns
  eater_cells = ap (λ n. n * column_count p) (sym eater_many) ∙ ap (λ n. length s.lines.items * n) (sym eater.columns)

  module _ (sets : ℕ) (sets_is : sets ≡ p.stated) (U : ℕ) (e : List ℕ) (table : IsEatingTable (market_of p) U e) (lowest : IsLowestTerms U e) (fine : U ≤ 2 ^ 116) (units caps : List ℕ)
      (many : length units ≡ length s.units.items) (many_caps : length caps ≡ length s.caps.items)
      (served : (market : Market) → IsServed market s.lines.items e → (i a : ℕ) → i < length s.lines.items → a < s.columns → slice_index units (i * s.columns + a) ≡ share market U e i a)
      (capped : (market : Market) → IsServed market s.lines.items e → IsUncappedOffLists market sets → (i a : ℕ) → i < length s.lines.items → a < s.columns
      → slice_index caps (i * s.columns + a) ≡ full_at U (drop sets market.limits) (drop sets e) i a) where
    all_served : IsServed (market_of p) s.lines.items e
    all_served = problem_served p h s.lines.items e eater.lines table.size

    shares : (i a : ℕ) → i < length p.agents → a < column_count p → slice_index units (i * column_count p + a) ≡ share (market_of p) U e i a
    shares i a l m =
        subst (λ n. a < n → slice_index units (i * n + a) ≡ share (market_of p) U e i a) eater.columns
        (served (market_of p) all_served i a (omega (arith, l, eater_many))) m

    own : (i a : ℕ) → i < length p.agents → a < column_count p → slice_index caps (i * column_count p + a) ≡ full_at U (drop p.stated (limits_of p)) (drop p.stated e) i a
    own i a l m =
        subst (λ t. slice_index caps (i * column_count p + a) ≡ full_at U (drop t (limits_of p)) (drop t e) i a) sets_is
        (subst (λ n. a < n → slice_index caps (i * n + a) ≡ full_at U (drop sets (limits_of p)) (drop sets e) i a) eater.columns
        (capped (market_of p) all_served (subst (IsUncappedOffLists (market_of p)) (sym sets_is) (off_lists p h)) i a (omega (arith, l, eater_many))) m)

    all_units : length units ≡ length p.agents * column_count p
    all_units = many ∙ eater.units

    all_caps : length caps ≡ length p.agents * column_count p
    all_caps = many_caps ∙ eater.caps

    within : (n : ℕ) → n < length caps → slice_index caps n ≤ U
    within = each_cell (length p.agents) (column_count p) U caps all_caps
        (λ i a l m. (let is = own i a l m in omega (arith, is, full_le U (drop p.stated (limits_of p)) (drop p.stated e) i a)))

    abbrev pub handed : EatenValue
    handed = record {
      moments = take sets e;
      shares = record { denominator = U; agents = length s.lines.items; columns = s.columns; units = units };
      caps = caps;
    }

    -- it is lawful, and what is eaten
    pub handed_matrix : IsScaledMatrix handed.shares
    handed_matrix =
        subst (λ g. IsScaledMatrix (record { denominator = U; agents = g; columns = s.columns; units = units })) (sym eater_many)
        (subst (λ n. IsScaledMatrix (record { denominator = U; agents = length p.agents; columns = n; units = units })) (sym eater.columns)
        (matrix_lawful p h U e units caps table lowest fine all_units all_caps shares own))

    pub handed_value : IsEatenValue handed
    handed_value =
        subst (λ t. IsEatenValue (record { moments = take t e; shares = record { denominator = U; agents = length s.lines.items; columns = s.columns; units = units }; caps = caps })) (sym sets_is)
        (subst (λ g. IsEatenValue (record { moments = take p.stated e; shares = record { denominator = U; agents = g; columns = s.columns; units = units }; caps = caps })) (sym eater_many)
        (subst (λ n. IsEatenValue (record { moments = take p.stated e; shares = record { denominator = U; agents = length p.agents; columns = n; units = units }; caps = caps })) (sym eater.columns)
        (value_lawful p h U e units caps table lowest fine all_units all_caps shares own within)))

    pub handed_eaten : IsEatenBy p e handed
    handed_eaten =
        subst (λ t. IsEatenBy p e (record { moments = take t e; shares = record { denominator = U; agents = length s.lines.items; columns = s.columns; units = units }; caps = caps })) (sym sets_is)
        (subst (λ g. IsEatenBy p e (record { moments = take p.stated e; shares = record { denominator = U; agents = g; columns = s.columns; units = units }; caps = caps })) (sym eater_many)
        (subst (λ n. IsEatenBy p e (record { moments = take p.stated e; shares = record { denominator = U; agents = length p.agents; columns = n; units = units }; caps = caps })) (sym eater.columns)
        (value_eaten p h U e units caps table lowest fine all_units all_caps shares own)))
