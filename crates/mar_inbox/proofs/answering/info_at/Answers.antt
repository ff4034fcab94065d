use Rattle.mar_inbox.proofs.answering.info_at.Goals as goal

pub returns-in-Ok-block_at-clause-goes_on : goal.returns-in-Ok-block_at-clause-goes_on
returns-in-Ok-block_at-clause-goes_on g c =
    let first = rw c.in-Ok.is at c.certificate_at.ensures.goes_on in
    let second = rw c.in-Ok-block_at.is at c.block_at.ensures.goes_on in
    λ start all grew within. second start all (first start all grew within) within

pub returns-in-Err-block_at-clause-goes_on : goal.returns-in-Err-block_at-clause-goes_on
returns-in-Err-block_at-clause-goes_on g c =
    let first = rw c.in-Ok.is at c.certificate_at.ensures.goes_on in
    let second = rw c.in-Err-block_at.is at c.block_at.ensures.goes_on in
    λ start all grew within. second start all (first start all grew within) within
