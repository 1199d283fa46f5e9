-- The problem with lawful parts is lawful.
use Rattle.std.proofs.Common.{◌≡◌, ℕ, ◌+◌, ◌*◌, ◌≤◌, ◌++◌, ◌∙◌, List, length, replicate, take, drop, sym, ap, arith, All}
use Rattle.std.proofs.lemmas.List.{take_at, drop_at, length-replicate}
use Rattle.std.proofs.lemmas.List.Elements.{All-replicate}
use Rattle.std.proofs.lemmas.List.Sums.{get_or-le-sum_by, sum_by-le}
use Rattle.std.proofs.Math.Nat.{mul-le-mul_left}
use Rattle.definitions.specs.Sets.{FamilyValue, IsFamily}
use Rattle.definitions.specs.Values.{IsProblem, row_sets}
use Rattle.quota_sets.specs.NameList.{AreNames}
use Rattle.quota_sets.specs.Parts.{AreProblemParts, AreDemands}

pub problem_is_lawful : (agents objects lists : List (List ℕ)) (demands : List ℕ) (stated family : FamilyValue) (count : ℕ)
    → AreNames agents → AreNames objects → AreProblemParts agents objects lists stated → AreDemands (length agents) demands
    → family ≡ record stated { sets = stated.sets ++ row_sets (length objects + 1) demands } → count ≡ length stated.sets → IsFamily family
    → IsProblem (record { agents = agents; objects = objects; lists = lists; demands = demands; family = family; stated = count })
problem_is_lawful agents objects lists demands stated family count names columns parts each is many lawful =
    let rows = row_sets (length objects + 1) demands in
    let sets : family.sets ≡ stated.sets ++ rows = ap (λ (f : FamilyValue). f.sets) is in
    let front : take count family.sets ≡ stated.sets = ap (take count) sets ∙ take_at stated.sets rows count (sym many) in
    record {
      agents_some = parts.agents_some;
      agents_limit = parts.agents_limit;
      agents_apart = names.distinct;
      objects_limit = parts.objects_limit;
      objects_apart = columns.distinct;
      lists_many = parts.lists_many;
      lists = parts.lawful_lists;
      demands_many = each.many;
      demands = each.each;
      demands_limit = each.limit;
      family = lawful;
      family_agents = ap (λ (f : FamilyValue). f.agents) is ∙ parts.stated_agents;
      family_columns = ap (λ (f : FamilyValue). f.columns) is ∙ parts.stated_columns;
      stated_limit = omega (arith, many, parts.stated_limit);
      stated_cells = rw front parts.stated_cells;
      stated_lawful = rw front parts.stated_lawful;
      columns_stated = rw front parts.columns_stated;
      rows = ap (drop count) sets ∙ drop_at stated.sets rows count (sym many);
    }

-- no demand is above their sum
pub demands_are_few : (agents : ℕ) (demands : List ℕ) → AreDemands agents demands → All (λ d. d ≤ 1000) demands
demands_are_few agents demands each k d l = omega (arith, each.limit, get_or-le-sum_by (λ (n : ℕ). n) demands k d l)

-- at most 1,000 rows of at most 201 columns
pub rows_are_few : (agents columns : ℕ) → agents ≤ 1000 → columns ≤ 201 → agents * columns ≤ 201000
rows_are_few agents columns few narrow =
    let one : agents * columns ≤ agents * 201 = mul-le-mul_left agents narrow in
    omega (arith, one)

-- demands of 1
pub ones_are_demands : (agents : ℕ) → agents ≤ 1000 → AreDemands agents (replicate agents 1)
ones_are_demands agents few = record {
  many = length-replicate {A = ℕ} agents 1;
  each = All-replicate (λ d. 1 ≤ d) agents 1 (omega arith);
  limit = omega (arith, length-replicate {A = ℕ} agents 1, sum_by-le (λ (n : ℕ). n) 1 (replicate agents 1) (All-replicate (λ d. d ≤ 1) agents 1 (omega arith)));
}
