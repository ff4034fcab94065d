use Rattle.std.proofs.Common.{ap, arith, length-append, map, rules, sym, [], ◌++◌, ◌∙◌, ◌∷◌, ◌≡◌}
use Rattle.std.proofs.lemmas.List.{map-append}
use Rattle.std.proofs.lemmas.Result.{err_from_is_err_and}
use Rattle.mar_cert.specs.MockViews.{plain_signer}
use Rattle.mar_cert.proofs.SignerSteps.{are_more, next_member-more, no_more, taken_more}
use Rattle.mar_cert.proofs.mock.read_signers.Goals as goal

pub returns-in_err-signer-clause-cause : goal.returns-in_err-signer-clause-cause
returns-in_err-signer-clause-cause g c =
    let p = err_from_is_err_and c.from_residual-in_err-signer.result c.from_residual-in_err-signer.ensures.1 in
    rw (p.1, p.2) (no_more _ _ _ _ _ _ _ c.signers.invariant.are c.signers.invariant.low (omega (arith, c.signers.invariant.so_many, c.signers-test.true)) c.signers.invariant.taken c.in_err-signer.ensures.cause)

pub signers-preserved : goal.signers-preserved
signers-preserved g c =
    let done = map plain_signer c.signers.signers.items in
    let signer = plain_signer c.in_ok-signer.signer in
    let items : c.push.new.self.items ≡ c.signers.signers.items ++ c.in_ok-signer.signer ∷ [] = search rules in
    let plain : map plain_signer c.push.new.self.items ≡ done ++ signer ∷ [] = ap (map plain_signer) items ∙ map-append plain_signer c.signers.signers.items (c.in_ok-signer.signer ∷ []) in
    rw plain (record {
      are = are_more _ _ _ _ c.signers.invariant.are (omega (arith, c.signers.invariant.low, c.in_ok-signer.ensures.low)) c.in_ok-signer.ensures.member c.in_ok-signer.ensures.tag;
      low = sym (next_member-more 0 done signer);
      so_many = omega (arith, length-append done (signer ∷ []), c.signers.invariant.so_many);
      taken = taken_more done signer _ _ _ c.signers.invariant.taken c.in_ok-signer.ensures.taken;
    })
