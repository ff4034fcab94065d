use Rattle.std.proofs.Common.{ap, rules, string_bytes, ◌++◌, ◌∙◌, ◌∷◌, ◌≡◌}
use Rattle.std.specs.Option.{option_map}
use Rattle.std.specs.Prelude.{codes}
use Rattle.mar_key.specs.Keys.{key_bytes}
use Rattle.mar_key.specs.Views.{annotation_of, key_of}
use Rattle.mar_script.specs.Script.{hex}
use Rattle.mar_script.specs.Text.{annotation_words, line_of, target_words}
use Rattle.mar_script.proofs.asks.push_fetch.Goals as goal

pub returns : goal.returns
returns c =
    let key : c.as_slice.result.now ≡ key_bytes (key_of (λ d. d.bytes) c.args.asked.now.key) = search rules in
    c.in_ok-push_request.ensures
    ∙ ap (λ k. string_bytes c.args.text.now ++ line_of (codes "fetch" ∷ hex k ∷ (annotation_words (annotation_of c.args.asked.now.subscriber) ++ target_words (option_map (λ p. p.now) c.args.peers)))) key
