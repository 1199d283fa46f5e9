-- What the calls ask is known of the recipe.
use Rattle.std.proofs.Common.{ℕ, ◌≤◌, ◌∙◌, List, length, map, ap, sym, subst, All}
use Rattle.std.specs.List.{range_with_len}
use Rattle.price_cert.specs.Ranks.{IsClimbable, price_in}
use Rattle.price_cert.proofs.RecipeAgrees.{ranks_climbable, ranks_few, ranks_within, top_few, tree_agents, tree_columns, fitting, made_from}
use Rattle.price_cert.proofs.answer.prices_by.Goals as goal

pub prices_of-requires-clause-climbable : goal.prices_of-requires-clause-climbable
prices_of-requires-clause-climbable c =
    subst (λ (xs : List ℕ). IsClimbable c.args.trees.now (length xs)) (sym c.deref.ensures.value) (ranks_climbable c.args.problem.now c.args.trees.now c.requires.trees c.args.eaten.now c.requires.eaten c.args.recipe.now c.requires.recipe)

pub prices_of-requires-clause-few : goal.prices_of-requires-clause-few
prices_of-requires-clause-few c =
    subst (λ (xs : List ℕ). length xs ≤ 1000) (sym c.deref.ensures.value) (ranks_few c.args.problem.now c.args.trees.now c.requires.trees c.args.eaten.now c.requires.eaten c.args.recipe.now c.requires.recipe)

pub prices_of-requires-clause-within : goal.prices_of-requires-clause-within
prices_of-requires-clause-within c =
    subst (All (λ rank. rank ≤ c.args.recipe.now.top)) (sym c.deref.ensures.value) (ranks_within c.args.problem.now c.args.trees.now c.requires.trees c.args.eaten.now c.requires.eaten c.args.recipe.now c.requires.recipe)

pub prices_of-requires-clause-top : goal.prices_of-requires-clause-top
prices_of-requires-clause-top c = top_few c.args.problem.now c.args.trees.now c.requires.trees c.args.eaten.now c.requires.eaten c.args.recipe.now c.requires.recipe

pub all_worths-requires-clause-fitting : goal.all_worths-requires-clause-fitting
all_worths-requires-clause-fitting c = fitting c.args.problem.now c.args.trees.now c.requires.trees c.args.eaten.now c.requires.eaten c.args.recipe.now c.requires.recipe

pub all_worths-requires-clause-agents : goal.all_worths-requires-clause-agents
all_worths-requires-clause-agents c = tree_agents c.args.problem.now c.args.trees.now c.requires.trees c.args.eaten.now c.requires.eaten c.args.recipe.now c.requires.recipe

pub all_worths-requires-clause-columns : goal.all_worths-requires-clause-columns
all_worths-requires-clause-columns c = tree_columns c.args.problem.now c.args.trees.now c.requires.trees c.args.eaten.now c.requires.eaten c.args.recipe.now c.requires.recipe

pub returns : goal.returns
returns c e by =
    made_from c.args.problem.now c.requires.recipe.lawful c.args.trees.now c.requires.trees e c.args.eaten.now by c.args.recipe.now c.requires.recipe _
    (c.in_ok-price.ensures ∙ ap (λ (xs : List ℕ). map (price_in c.args.recipe.now.width xs c.args.recipe.now.top c.args.trees.now) (range_with_len 1 (length xs))) c.deref.ensures.value)
    c.in_ok-worth.ensures
