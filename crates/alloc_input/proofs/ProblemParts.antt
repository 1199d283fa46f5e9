-- What lawful preferences and quotas state are the parts of a problem.
use Rattle.std.proofs.Common.{◌≡◌, ◌≤◌, ℕ, List, None, true, All, sym, ap, subst, length}
use Rattle.std.specs.List.{Any}
use Rattle.definitions.specs.Sets.{FamilyValue, SetValue, cells_in}
use Rattle.definitions.specs.Texts.{Row}
use Rattle.definitions.specs.Values.{IsStatedSet, HoldsColumn}
use Rattle.quota_sets.specs.Parts.{AreProblemParts, AreDemands}
use Rattle.alloc_input.specs.Objects.{declared}
use Rattle.alloc_input.specs.PrefsReading.{ArePreferences}
use Rattle.alloc_input.specs.Problems.{AreStatedFor}
use Rattle.alloc_input.specs.Quotas.{quotas_fault, family_of}
use Rattle.alloc_input.specs.Stated.{setting_of, stated_by}
use Rattle.alloc_input.proofs.DeclaredSets.{lawful-quotas-suit}

module _ (agents objects : List (List ℕ)) (rows : List Row) (same : objects ≡ declared rows) (few : length agents ≤ 1000) (lawful : quotas_fault (setting_of agents objects true) rows ≡ None) where
  suits : AreStatedFor (length agents) (length objects) (stated_by (setting_of agents objects true) rows)
  suits =
      subst (λ (names : List (List ℕ)). AreStatedFor (length agents) (length names) (stated_by (setting_of agents names true) rows)) (sym same)
      (lawful-quotas-suit agents rows few (subst (λ (names : List (List ℕ)). quotas_fault (setting_of agents names true) rows ≡ None) same lawful))

  pub problem-parts : (lists : List (List ℕ)) (family : FamilyValue) → ArePreferences (length objects) agents lists
      → family ≡ family_of (setting_of agents objects true) (stated_by (setting_of agents objects true) rows) → AreProblemParts agents objects lists family
  problem-parts lists family h is =
      let sets : (stated_by (setting_of agents objects true) rows).sets ≡ family.sets = sym (ap (λ (f : FamilyValue). f.sets) is) in
      record {
        agents_some = h.some;
        agents_limit = h.many;
        objects_limit = suits.objects_limit;
        lists_many = h.lists_many;
        lawful_lists = h.lists_lawful;
        stated_agents = ap (λ (f : FamilyValue). f.agents) is;
        stated_columns = ap (λ (f : FamilyValue). f.columns) is;
        stated_limit = subst (λ (xs : List SetValue). length xs ≤ 1000) sets suits.sets_limit;
        stated_cells = subst (λ (xs : List SetValue). cells_in xs ≤ 1000000) sets suits.cells_limit;
        stated_lawful = subst (λ (xs : List SetValue). All (IsStatedSet (length objects)) xs) sets suits.sets_lawful;
        columns_stated = λ a l. subst (λ (xs : List SetValue). Any (HoldsColumn (length agents) a) xs) sets (suits.columns_stated a l);
      }

  pub problem-demands : (demands : List ℕ) → demands ≡ (stated_by (setting_of agents objects true) rows).demands → AreDemands (length agents) demands
  problem-demands demands is = subst (AreDemands (length agents)) (sym is) suits.demands_lawful
