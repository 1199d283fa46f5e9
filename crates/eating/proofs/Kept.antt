-- What an eater keeps of its problem.
use Rattle.std.proofs.Common.{◌≡◌, ℕ, ◌<◌, List, [], length, map, get_or, sym, ap, ◌∙◌, subst, arith}
use Rattle.std.proofs.lemmas.List.{ext_get_or, get_or-map, length-map}
use Rattle.std.proofs.lemmas.Option.{slice_get-get_or, unwrap_or-slice_get}
use Rattle.definitions.specs.Sets.{SetValue}
use Rattle.definitions.specs.Values.{ProblemValue, IsProblem, column_count, market_of, stated_sets}
use Rattle.definitions.specs.Eaters.{EaterValue, market_of_eater}
use Rattle.definitions.proofs.Families.{stated_count}
use Rattle.definitions.proofs.Problems.{agent_of}
use Rattle.eating_laws.proofs.Limits.{agent_count}
use Rattle.eating.specs.Answers.{IsEatenBy, IsTableOf}
use Rattle.eating.specs.Eaten.{EatenValue}
use Rattle.eating.specs.Eaters.{kept_of}
use Rattle.eating.specs.Made.{eater_value}
use Rattle.eating.specs.Plan.{LineValue, IsLineOf, AreLinesOf, agent_at}

-- the lines of a problem's agents have its lists and demands
module _ (p : ProblemValue) (h : IsProblem p) (lines : List LineValue) (are : AreLinesOf (market_of p) lines) where
  many : length lines ≡ length p.agents
  many = are.many ∙ agent_count p h

  abbrev no_line : LineValue
  no_line = record { demand = 0; columns = []; holders = [] }

  line_at : (k : ℕ) → k < length lines → IsLineOf (market_of p) k (agent_at p k) (get_or lines k no_line)
  line_at k l = are.each k (agent_at p k) (get_or lines k no_line) (agent_of p k h (omega (arith, l, many))) (slice_get-get_or lines k no_line l)

  lists_kept : map (λ (line : LineValue). line.columns) lines ≡ p.lists
  lists_kept = ext_get_or [] (map (λ (line : LineValue). line.columns) lines) p.lists (size ∙ many ∙ sym h.lists_many) (λ k l. (let inside : k < length lines = omega (arith, l, size) in
      get_or-map (λ (line : LineValue). line.columns) lines k no_line [] inside ∙ (line_at k inside).columns ∙ unwrap_or-slice_get p.lists k []))
    where
      size : length (map (λ (line : LineValue). line.columns) lines) ≡ length lines
      size = length-map lines (λ (line : LineValue). line.columns)

  demands_kept : map (λ (line : LineValue). line.demand) lines ≡ p.demands
  demands_kept = ext_get_or 0 (map (λ (line : LineValue). line.demand) lines) p.demands (size ∙ many ∙ sym h.demands_many) (λ k l. (let inside : k < length lines = omega (arith, l, size) in
      get_or-map (λ (line : LineValue). line.demand) lines k no_line 0 inside ∙ (line_at k inside).demand))
    where
      size : length (map (λ (line : LineValue). line.demand) lines) ≡ length lines
      size = length-map lines (λ (line : LineValue). line.demand)

  -- so an eater with these lines shows what is kept of the problem
  pub all_kept : (columns : ℕ) (stated : List SetValue) → columns ≡ column_count p → stated ≡ stated_sets p → eater_value columns stated lines ≡ kept_of p
  all_kept columns stated c s =
      let make : ℕ → ℕ → List (List ℕ) → List SetValue → List ℕ → EaterValue = λ g n lists sets demands. record { agents = g; columns = n; lists = lists; stated = sets; demands = demands } in
      ap (λ g. make g columns (map (λ (line : LineValue). line.columns) lines) stated (map (λ (line : LineValue). line.demand) lines)) many
      ∙ ap (λ n. make (length p.agents) n (map (λ (line : LineValue). line.columns) lines) stated (map (λ (line : LineValue). line.demand) lines)) c
      ∙ ap (λ lists. make (length p.agents) (column_count p) lists stated (map (λ (line : LineValue). line.demand) lines)) lists_kept
      ∙ ap (λ sets. make (length p.agents) (column_count p) p.lists sets (map (λ (line : LineValue). line.demand) lines)) s
      ∙ ap (λ demands. make (length p.agents) (column_count p) p.lists (stated_sets p) demands) demands_kept

-- what is eaten in a problem is eaten in what is kept of it, and the other way round
module _ (p : ProblemValue) (h : IsProblem p) (v : EaterValue) (is : v ≡ kept_of p) (e : List ℕ) (x : EatenValue) where
  pub eaten_of_kept : IsEatenBy p e x → IsTableOf (market_of_eater v) v.agents v.columns (length v.stated) e x
  eaten_of_kept by = subst (λ w. IsTableOf (market_of_eater w) w.agents w.columns (length w.stated) e x) (sym is)
      (subst (λ n. IsTableOf (market_of p) (length p.agents) (column_count p) n e x) (sym (stated_count p h)) by)

  pub eaten_of_problem : IsTableOf (market_of_eater v) v.agents v.columns (length v.stated) e x → IsEatenBy p e x
  eaten_of_problem by = subst (λ n. IsTableOf (market_of p) (length p.agents) (column_count p) n e x) (stated_count p h)
      (subst (λ w. IsTableOf (market_of_eater w) w.agents w.columns (length w.stated) e x) is by)
