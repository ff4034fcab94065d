use Rattle.std.proofs.Common.{ap, refl, rules, ◌++◌, ◌∙◌, ◌∷◌, ◌≡◌}
use Rattle.std.specs.Prelude.{codes}
use Rattle.std.proofs.lemmas.Result.{IfOk-weaker}
use Rattle.mar_script.specs.Lines.{plain_block, plain_line, row}
use Rattle.mar_script.specs.declared.line.Kind.TheVariants as kind
use Rattle.mar_script.specs.declared.line.Line.TheVariants as line
use Rattle.mar_script.proofs.Rows.{first_genesis, genesis_first, made_by, reads, refused}
use Rattle.mar_script.proofs.line.open.Goals as goal

pub returns-in-Some : goal.returns-in-Some
returns-in-Some c = λ n.
    let genesis = genesis_first c.args.words.now _ _ c.in-Some.ensures.found in
    made_by (row kind.Open) plain_block
    (reads (λ b is. (tt, (is, tt))) (λ b are. are.1.0) c.block_of.ensures.is_block (IfOk-weaker c.block_of.result _ _ (λ b is. genesis.0 ∙ ap (λ r. codes "genesis" ++ 32 ∷ r) is) c.block_of.ensures.found)
    (λ b is same. c.block_of.ensures.only b is (genesis.1 _ same))) c.map.ensures.cases (λ x y is. let same : y ≡ line.OpenGenesis x = search rules in ap plain_line same)

pub returns-in-None : goal.returns-in-None
returns-in-None c = λ n. refused (λ l of. c.in-None.ensures.none refl _ _ (first_genesis c.args.words.now _ of.spelled))
