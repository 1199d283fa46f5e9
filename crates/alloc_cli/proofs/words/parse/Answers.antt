use Rattle.std.proofs.Common.{◌∙◌, ap, length, string_bytes}
use Rattle.alloc_cli.specs.Words.{form_of_one, form_of_two, form_of_three}
use Rattle.alloc_cli.proofs.WordsLemmas.{form_of_four_words, form_of_three_loads, form_of_three_words, form_of_two_loads, form_of_two_words}
use Rattle.alloc_cli.proofs.words.parse.Goals as goal

pub returns-in-len2-clause-form : goal.returns-in-len2-clause-form
returns-in-len2-clause-form c =
    c.parse_with_one.ensures
    ∙ ap form_of_one c.as_str.ensures.value
    ∙ form_of_two_words string_bytes c.args.words.now c.name-item.result c.in-len2.len_at_least c.in-len2.len_below c.name-item.is

pub returns-in-len3-clause-form : goal.returns-in-len3-clause-form
returns-in-len3-clause-form c =
    c.parse_with_two.ensures.form
    ∙ ap (λ name. form_of_two name c.as_str-in-len3-2.result.now c.as_str-in-len3-3.result.now) c.as_str-in-len3.ensures.value
    ∙ ap (λ first. form_of_two (string_bytes c.name-item-then-words-lt4.result) first c.as_str-in-len3-3.result.now) c.as_str-in-len3-2.ensures.value
    ∙ ap (form_of_two (string_bytes c.name-item-then-words-lt4.result) (string_bytes c.first-item.result)) c.as_str-in-len3-3.ensures.value
    ∙ form_of_three_words string_bytes c.args.words.now c.name-item-then-words-lt4.result c.first-item.result c.second-item.result c.in-len3.len_at_least c.in-len3.len_below c.name-item-then-words-lt4.is c.first-item.is c.second-item.is

pub returns-in-len4-clause-form : goal.returns-in-len4-clause-form
returns-in-len4-clause-form c =
    c.parse_with_three.ensures
    ∙ ap (λ name. form_of_three name c.as_str-in-len4-2.result.now c.as_str-in-len4-3.result.now c.as_str-in-len4-4.result.now) c.as_str-in-len4.ensures.value
    ∙ ap (λ first. form_of_three (string_bytes c.name-item-then-words-lt5.result) first c.as_str-in-len4-3.result.now c.as_str-in-len4-4.result.now) c.as_str-in-len4-2.ensures.value
    ∙ ap (λ second. form_of_three (string_bytes c.name-item-then-words-lt5.result) (string_bytes c.first-item-then-words-lt5.result) second c.as_str-in-len4-4.result.now) c.as_str-in-len4-3.ensures.value
    ∙ ap (form_of_three (string_bytes c.name-item-then-words-lt5.result) (string_bytes c.first-item-then-words-lt5.result) (string_bytes c.second-item-then-words-lt5.result)) c.as_str-in-len4-4.ensures.value
    ∙ form_of_four_words string_bytes c.args.words.now c.name-item-then-words-lt5.result c.first-item-then-words-lt5.result c.second-item-then-words-lt5.result c.third-item.result
    c.in-len4.len_at_least c.in-len4.len_below c.name-item-then-words-lt5.is c.first-item-then-words-lt5.is c.second-item-then-words-lt5.is c.third-item.is

pub returns-in-len3-clause-files : goal.returns-in-len3-clause-files
returns-in-len3-clause-files c =
    form_of_two_loads (length c.args.words.now) c.as_str-in-len3.result.now c.as_str-in-len3-2.result.now c.as_str-in-len3-3.result.now c.parse_with_two.result c.parse_with_two.ensures.form c.in-len3.len_at_least

pub returns-in-len4-clause-files : goal.returns-in-len4-clause-files
returns-in-len4-clause-files c =
    form_of_three_loads (length c.args.words.now) c.as_str-in-len4.result.now c.as_str-in-len4-2.result.now c.as_str-in-len4-3.result.now c.as_str-in-len4-4.result.now c.parse_with_three.result c.parse_with_three.ensures
    c.in-len4.len_at_least
