use Rattle.std.proofs.Common.{ap, arith, refl, ◌∙◌, ◌≡◌, ◌≤◌}
use Rattle.mar_model.specs.Views.{store_name_of}
use Rattle.mar_script.specs.Lines.{stores}
use Rattle.mar_script.specs.Script.{fail_line}
use Rattle.mar_script.proofs.Rows.{fails_with, makes_fail, one_first, positive, refused}
use Rattle.mar_script.proofs.line.fail.Goals as goal

pub returns-in_default : goal.returns-in_default
returns-in_default c = λ n. refused (λ l of. let is = makes_fail n c.args.words.now l of in c.in_default.ensures.none refl is.store is.rest is.first)

pub returns-then-calls-eq0 : goal.returns-then-calls-eq0
returns-then-calls-eq0 c = λ n. refused (λ l of.
    let is = makes_fail n c.args.words.now l of in
    let one = one_first stores c.args.words.now _ is.store _ is.rest c.in-Some.ensures.found is.first in
    let zero : c.in-Ok.calls ≡ 0 = c.if-calls-eq0.true in
    let same : c.in-Ok.calls ≡ is.calls = c.in-Ok.ensures.only is.calls is.fits (one.1 ∙ is.spelled) in
    let some : 1 ≤ is.calls = is.some in
    omega arith)

pub returns-else-calls-eq0 : goal.returns-else-calls-eq0
returns-else-calls-eq0 c = λ n. record {
  found = fails_with n c.args.words.now _ c.in-Some.store c.in-Ok.calls c.in-Some.ensures.found (positive c.in-Ok.calls c.if-calls-eq0.false) c.in-Ok.ensures.fits c.in-Ok.ensures.found;
  only = λ l of.
      let is = makes_fail n c.args.words.now l of in
      let one = one_first stores c.args.words.now _ is.store _ is.rest c.in-Some.ensures.found is.first in
      let calls : c.in-Ok.calls ≡ is.calls = c.in-Ok.ensures.only is.calls is.fits (one.1 ∙ is.spelled) in
      ap (λ s. fail_line (store_name_of s) c.in-Ok.calls) one.0 ∙ ap (λ k. fail_line (store_name_of is.store) k) calls ∙ is.made;
}

pub returns-in-Err : goal.returns-in-Err
returns-in-Err c = λ n. record {
  found = tt;
  only = λ l of.
      let is = makes_fail n c.args.words.now l of in
      let one = one_first stores c.args.words.now _ is.store _ is.rest c.in-Some.ensures.found is.first in
      c.in-Err.ensures.only is.calls is.fits (one.1 ∙ is.spelled);
}
