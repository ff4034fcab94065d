use Rattle.std.proofs.Common.{ap, decimal, map, subst, sym, ◌∙◌, ◌≡◌}
use Rattle.mar_script.specs.Script.{IsSettings, Settings, sentence}
use Rattle.mar_script.specs.Words.{numbers_of, words_of}
use Rattle.mar_script.proofs.Sentences.{config_words, settings_line, settings_numbers, settings_rest}
use Rattle.mar_script.proofs.settings.parse_settings.Goals as goal

pub returns-in_default-clause-only : goal.returns-in_default-clause-only
returns-in_default-clause-only c = λ s ok is. c.in_default.ensures.only (sentence (map decimal (numbers_of s))) (settings_rest c.args.line.now s is)

pub returns-in-Err-clause-only : goal.returns-in-Err-clause-only
returns-in-Err-clause-only c = λ s ok is.
    c.in-Err.ensures.only (numbers_of s) (settings_numbers s ok) (config_words c.args.line.now c.in-Some.rest.now _ s ok is (λ r e. c.in-Some.ensures.only r e) (ap words_of c.as_slice.ensures.value ∙ c.in_ok-words.ensures))

pub returns-in_default-from_numbers-clause-only : goal.returns-in_default-from_numbers-clause-only
returns-in_default-from_numbers-clause-only c = λ s ok is.
    let ns = c.in-Ok.ensures.only (numbers_of s) (settings_numbers s ok) (config_words c.args.line.now c.in-Some.rest.now _ s ok is (λ r e. c.in-Some.ensures.only r e) (ap words_of c.as_slice.ensures.value ∙ c.in_ok-words.ensures)) in
    cc (c.in_default-from_numbers.ensures.only s (c.as_slice-2.ensures.value ∙ ns))

pub returns-then-is_valid-clause-only : goal.returns-then-is_valid-clause-only
returns-then-is_valid-clause-only c = λ s ok is.
    let ns = c.in-Ok.ensures.only (numbers_of s) (settings_numbers s ok) (config_words c.args.line.now c.in-Some.rest.now _ s ok is (λ r e. c.in-Some.ensures.only r e) (ap words_of c.as_slice.ensures.value ∙ c.in_ok-words.ensures)) in
    cc (c.in-Some-from_numbers.ensures.only s (c.as_slice-2.ensures.value ∙ ns))

pub returns-then-is_valid-clause-found : goal.returns-then-is_valid-clause-found
returns-then-is_valid-clause-found c =
    settings_line c.args.line.now c.in-Some.rest.now _ c.in-Some.ensures.found
    (sym c.in_ok-words.ensures ∙ ap words_of (sym c.as_slice.ensures.value) ∙ c.in-Ok.ensures.found ∙ ap (map decimal) (sym c.as_slice-2.ensures.value ∙ c.in-Some-from_numbers.ensures.found))

pub returns-clause-only : goal.returns-clause-only
returns-clause-only c = λ s ok is.
    let ns = c.in-Ok.ensures.only (numbers_of s) (settings_numbers s ok) (config_words c.args.line.now c.in-Some.rest.now _ s ok is (λ r e. c.in-Some.ensures.only r e) (ap words_of c.as_slice.ensures.value ∙ c.in_ok-words.ensures)) in
    let same : c.in-Some-from_numbers.settings ≡ s = cc (c.in-Some-from_numbers.ensures.only s (c.as_slice-2.ensures.value ∙ ns)) in
    cc (c.is_valid.ensures.1 (subst (λ (t : Settings). IsSettings t) (sym same) ok), c.if-is_valid.false)
