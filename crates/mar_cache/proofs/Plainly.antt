-- Changes of plain entries instead of what keeps them.
use Rattle.std.proofs.Common.{List, [], ◌∷◌, None, Some, map, Option}
use Rattle.mar_model.specs.Cached.{Cached, epoch_of}
use Rattle.mar_cache.specs.Calls.{IsPut, IsPutAndSynced}
use Rattle.mar_model.specs.Sections.{section_of}
use Rattle.mar_cache.specs.Shelved.{AllChanges, DoesAt, finishes, finishes_second}
use Rattle.mar_epochs.specs.EpochStates.{ChangesEpoch, EpochState, EpochStates, opened, shut}
use Rattle.mar_epochs.specs.EpochArchives.{Book, ChangesArchives}
use Rattle.mar_epochs.specs.declared.Change.{Change}
use Rattle.mar_epochs.specs.declared.Change.TheVariants.{Finish, PruneBelow, PruneCertified, Put, Sync}
use Rattle.mar_model.specs.declared.CacheTicket.{CacheTicket}
use Rattle.mar_model.specs.declared.SectionSync.{SectionSync}

module _ {E : Type 0} (plain : E → Cached) where
  abbrev pub plain_change : Change E → Change Cached
  plain_change (Put x) = Put (plain x)
  plain_change (Sync s) = Sync s
  plain_change (Finish s t) = Finish s t
  plain_change (PruneBelow r) = PruneBelow r
  plain_change (PruneCertified h) = PruneCertified h

  archives_plain : (change : Change E) (old new : Book) → ChangesArchives plain change old new → ChangesArchives (λ y. y) (plain_change change) old new
  archives_plain (Put x) old new d = record { held = d.held; sure = d.sure; made_sure = d.made_sure; only = d.only; may = d.may; number = d.number; covers = d.covers; last = d.last }
  archives_plain (Sync s) old new d = record { held = d.held; sure = d.sure; made_sure = d.made_sure; only = d.only; may = d.may; number = d.number; covers = d.covers; last = d.last }
  archives_plain (Finish s t) old new d = record { held = d.held; sure = d.sure; made_sure = d.made_sure; only = d.only; may = d.may; number = d.number; covers = d.covers; last = d.last }
  archives_plain (PruneBelow r) old new d = record { held = d.held; sure = d.sure; made_sure = d.made_sure; only = d.only; may = d.may; number = d.number; covers = d.covers; last = d.last }
  archives_plain (PruneCertified h) old new d = record { held = d.held; sure = d.sure; made_sure = d.made_sure; only = d.only; may = d.may; number = d.number; covers = d.covers; last = d.last }

  state_plain : (change : Change E) (old new : EpochState) → ChangesEpoch plain change old new → ChangesEpoch (λ y. y) (plain_change change) old new
  state_plain change (opened b) new d = (d.0, archives_plain change b d.0 d.1, d.2)
  state_plain change (shut l) new d = d

  all_plain : (changes : List (Change E)) (old new : EpochState) → AllChanges plain changes old new → AllChanges (λ y. y) (map plain_change changes) old new
  all_plain [] old new d = d
  all_plain (change ∷ changes) old new d = (d.0, state_plain change old d.0 d.1, all_plain changes d.0 new d.2)

  pub put_plain : (x : E) (old new : EpochStates) → DoesAt plain (epoch_of (plain x)) (Put x ∷ []) old new → IsPut (plain x) old new
  put_plain x old new d = record { mid = d.mid; opens = d.opens; done = all_plain (Put x ∷ []) d.mid (new (epoch_of (plain x))) d.done; others = d.others }

  pub sync_plain : (x : E) (old new : EpochStates) → DoesAt plain (epoch_of (plain x)) (Put x ∷ Sync (section_of (plain x)) ∷ []) old new → IsPutAndSynced (plain x) old new
  sync_plain x old new d = record { mid = d.mid; opens = d.opens; done = all_plain (Put x ∷ Sync (section_of (plain x)) ∷ []) d.mid (new (epoch_of (plain x))) d.done; others = d.others }

  pub finish_plain : (t : CacheTicket) (old new : EpochState) → AllChanges plain (finishes t) old new → AllChanges (λ y. y) (finishes t) old new
  finish_plain t old new done = by t.second done
    where
      by : (o : Option SectionSync) → AllChanges plain (Finish t.first.section t.first.number ∷ finishes_second o) old new → AllChanges (λ y. y) (Finish t.first.section t.first.number ∷ finishes_second o) old new
      by None d = all_plain (Finish t.first.section t.first.number ∷ []) old new d
      by (Some p) d = all_plain (Finish t.first.section t.first.number ∷ Finish p.section p.number ∷ []) old new d

  pub prune_plain : (r : _) (old new : EpochState) → ChangesEpoch plain (PruneBelow r) old new → ChangesEpoch (λ y. y) (PruneBelow r) old new
  prune_plain r old new d = state_plain (PruneBelow r) old new d
