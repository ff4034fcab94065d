use Rattle.std.proofs.Common.{List, ap, rules, ℕ, ◌++◌, ◌∙◌, ◌≡◌}
use Rattle.mar_gen.specs.Output.{summary_back, summary_front}
use Rattle.mar_gen.proofs.output.summary.Goals as goal

pub returns : goal.returns
returns c =
    let front : List ℕ = summary_front c.args.seed c.args.last c.args.delivered in
    let back : List ℕ = summary_back c.args.lives in
    let first : c.extend_from_slice.new.self.items ≡ front = search rules in
    let second : c.extend_from_slice-2.new.self.items ≡ c.extend_from_slice.new.self.items ++ c.args.processed.now = search rules in
    let third : c.extend_from_slice-3.new.self.items ≡ c.extend_from_slice-2.new.self.items ++ back = search rules in
    third ∙ ap (λ xs. xs ++ back) (second ∙ ap (λ xs. xs ++ c.args.processed.now) first)
