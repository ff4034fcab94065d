use Rattle.std.proofs.Common.{rules, ap, arith, map, vec_len, ◌++◌, ◌∷◌, [], ◌∙◌, ◌≡◌, ◌<◌}
use Rattle.std.proofs.lemmas.List.{map-append}
use Rattle.mar_key.specs.Received.{received}
use Rattle.mar_key.proofs.PeerTakes.{fewer, take_more, take_rest}
use Rattle.mar_key.proofs.receiver.Receiver.take.Goals as goal

pub push_reserved-requires : goal.push_reserved-requires
push_reserved-requires g c =
    let below : vec_len c.loop-self.messages < c.args.most = search rules in
    omega (arith, below, c.loop-self.invariant.queued, c.loop-self.invariant.room, fewer _ _ _ c.in-Some.ensures)

pub loop-self-preserved : goal.loop-self-preserved
loop-self-preserved g c =
    let below : vec_len c.loop-self.messages < c.args.most = search rules in
    let more : map (received g.D.Named.bytes) c.push_reserved.new.self.items ≡ map (received g.D.Named.bytes) c.loop-self.messages.items ++ received g.D.Named.bytes c.in-Some.message ∷ []
    = ap (map (received g.D.Named.bytes)) c.push_reserved.ensures.items ∙ map-append (received g.D.Named.bytes) c.loop-self.messages.items (c.in-Some.message ∷ []) in
    record {
      taken = rw c.push_reserved.ensures.len (c.loop-self.invariant.taken ∙ take_more c.args.most (vec_len c.loop-self.messages) _ _ _ _ _ below more c.in-Some.ensures);
      queued = omega (arith, c.push_reserved.ensures.len, c.loop-self.invariant.queued, fewer _ _ _ c.in-Some.ensures);
      room = omega (arith, c.push_reserved.ensures.capacity, c.loop-self.invariant.room);
    }

pub returns-in-None-clause-taken : goal.returns-in-None-clause-taken
returns-in-None-clause-taken g c = c.loop-self.invariant.taken ∙ take_rest c.args.most (vec_len c.loop-self.messages) _ _ _ c.in-None.ensures
