use Rattle.std.proofs.Common.{ap, ◌∙◌}
use Rattle.std.proofs.lemmas.List.{take-map}
use Rattle.mar_store.specs.Changes.{heights}
use Rattle.mar_store.specs.Ranges.{ranges}
use Rattle.mar_store.specs.Entries.{seen}
use Rattle.mar_store.proofs.FrontPlaces.{front_stays}
use Rattle.mar_store.proofs.pile.Pile.draft_settled.Goals as goal

pub ranges_from-requires-clause-stay : goal.ranges_from-requires-clause-stay
ranges_from-requires-clause-stay g c = rw c.deref.ensures.value (front_stays c.args.half c.args.self.now.synced c.args.self.now.items.items c.args.self.now.within)

pub count_of-synced-requires-clause-stay : goal.count_of-synced-requires-clause-stay
count_of-synced-requires-clause-stay g c = rw c.deref-2.ensures.value (front_stays c.args.half c.args.self.now.synced c.args.self.now.items.items c.args.self.now.within)

pub ranges_from-requires-clause-front : goal.ranges_from-requires-clause-front
ranges_from-requires-clause-front g c = rw c.deref.ensures.value (c.in_ok-front.ensures ∙ c.args.self.now.sure_is ∙ ap (λ xs. ranges (heights xs)) (take-map seen c.args.self.now.synced c.args.self.now.items.items))
