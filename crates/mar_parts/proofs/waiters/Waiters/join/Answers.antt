use Rattle.std.proofs.Common.{Some, ap, cond, refl, rules, sym, [], ◌++◌, ◌∙◌, ◌∷◌, ◌≡◌}
use Rattle.std.specs.Prelude.{bytes_eq, option_map}
use Rattle.mar_parts.specs.WaitViews.{name_of, wait_of}
use Rattle.mar_parts.specs.Waits.{wait_for}
use Rattle.mar_parts.specs.declared.waiters.Waiting.{Waiting}
use Rattle.mar_parts.proofs.ByName.{named, seen, written_same}
use Rattle.mar_parts.proofs.Known.{on_err}
use Rattle.mar_parts.proofs.Waiting.{after_update, joined_to}
use Rattle.mar_parts.proofs.waiters.Waiters.join.Goals as goal

pub returns-in_default-clause-found : goal.returns-in_default-clause-found
returns-in_default-clause-found g c =
    rw (← c.self.view_is, named g.K.Named.bytes g.K.Ord.cmp (wait_of (name_of g.K.Named.bytes)) g.met.K.Digest.ordered c.args.name.now c.self.inside.waits.entries, ← c.in_default.ensures.value) refl

pub returns-in_err-push-clause-err : goal.returns-in_err-push-clause-err
returns-in_err-push-clause-err g c =
    let same : c.push.new.self.items ≡ c.in-Some.waiting.now.tickets.items = search rules in
    let w : Waiting _ = record { tickets = c.push.new.self; subscription = c.in-Some.waiting.now.subscription } in
    rw (← c.self.view_is) (on_err c.from_residual.result
    (ap (seen g.K.Named.bytes (wait_of (name_of g.K.Named.bytes))) (c.get_mut.follows.holds w).0
    ∙ written_same g.K.Named.bytes (wait_of (name_of g.K.Named.bytes)) _ w c.in-Some.waiting.now c.self.inside.waits.entries (sym c.in-Some.ensures.value) (ap (λ items. record { tickets = items; promise = option_map (name_of g.K.Named.bytes) c.in-Some.waiting.now.subscription }) same)))

pub returns-clause-found : goal.returns-clause-found
returns-clause-found g c =
    rw (← c.self.view_is, named g.K.Named.bytes g.K.Ord.cmp (wait_of (name_of g.K.Named.bytes)) g.met.K.Digest.ordered c.args.name.now c.self.inside.waits.entries, ← c.in-Some.ensures.value) refl

pub returns-clause-joined : goal.returns-clause-joined
returns-clause-joined g c =
    let w : Waiting _ = record { tickets = c.push.new.self; subscription = c.in-Some.waiting.now.subscription } in
    let items : (wait_of (name_of g.K.Named.bytes) w).tickets ≡ (wait_of (name_of g.K.Named.bytes) c.in-Some.waiting.now).tickets ++ c.args.ticket ∷ [] = search rules in
    let here = named g.K.Named.bytes g.K.Ord.cmp (wait_of (name_of g.K.Named.bytes)) g.met.K.Digest.ordered c.args.name.now c.self.inside.waits.entries ∙ ap (option_map (wait_of (name_of g.K.Named.bytes))) (sym c.in-Some.ensures.value) in
    rw (← c.self.view_is) (λ so promise other.
    after_update g.K.Named.bytes g.K.Ord.cmp (wait_of (name_of g.K.Named.bytes)) g.met.K.Digest.ordered c.self.inside.waits (c.get_mut.follows.lender w) c.args.name.now (Some w) ((c.get_mut.follows.holds w).3 (rw (← c.in-Some.ensures.value) refl)).0 other
    ∙ ap (λ x. cond (bytes_eq (g.K.Named.bytes c.args.name.now) (g.K.Named.bytes other)) (Some x) (wait_for (seen g.K.Named.bytes (wait_of (name_of g.K.Named.bytes)) c.self.inside.waits.entries) (g.K.Named.bytes other))) (joined_to c.args.ticket promise (wait_of (name_of g.K.Named.bytes) c.in-Some.waiting.now) (wait_of (name_of g.K.Named.bytes) w) _ here items refl))
