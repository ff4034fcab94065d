-- What a call of a store comes to for the stores of a life where nothing, or only one thing, changed.
use Rattle.std.proofs.Common.{◌≡◌, ℕ, Bool, List, Option, Result, ◌&&◌, refl}
use Rattle.std.specs.Prelude.{IfErr, OnOk}
use Rattle.mar_types.specs.Round.{Round}
use Rattle.mar_cert.specs.Block.{Block}
use Rattle.mar_cert.specs.Finalization.{Finalization}
use Rattle.mar_key.specs.Cutoff.{Cutoff}
use Rattle.mar_key.specs.Processed.{Processed}
use Rattle.mar_store.specs.Changes.{Left}
use Rattle.mar_store.specs.Kept.{At, Kept}
use Rattle.mar_store.specs.Watch.{Watch}
use Rattle.mar_model.specs.Cached.{Cached}
use Rattle.mar_model.specs.Faults.{Fault, StoreName}
use Rattle.mar_model.specs.Held.{GoesOn, Held, Passes, Progress, nothing_written, watch_of, HeldCache}
use Rattle.mar_model.specs.Metadata.{Pair}
use Rattle.mar_model.specs.Places.{is_open, kept_at}
use Rattle.mar_model.specs.Writing.{Writing}
use Rattle.mar_model.specs.declared.CacheTicket.{CacheTicket}
use Rattle.mar_model.specs.declared.OpenTicket.{OpenTicket}
use Rattle.mar_model.specs.declared.Place.{Place}
use Rattle.mar_model.proofs.Growing.{Grew-counted}
use Rattle.mar_model.proofs.Passing.{with_watch}
use Rattle.mar_model.proofs.StoreLosses.{Loses-missed}
use Rattle.mar_life.proofs.Placed.{by_answer, read_open, read_same}
use Rattle.mar_life.specs.Caching.{LifeEntries, with_syncs}
use Rattle.mar_life.specs.Pooling.{IsFaultOf, IsReadIn}

-- nothing changed but what a store tells of its failures
pub read_goes_on : {X C : Type 0} (fault : C → Fault) (s : StoreName) (old new : Held) (w : Watch) (r : Result X C) → new ≡ record old { watches = with_watch old.watches s w } → OnOk r (Passes (watch_of old.watches s) w) → IfErr r (λ e. IsFaultOf s (watch_of old.watches s) (fault e) w) → GoesOn fault old nothing_written new r
read_goes_on fault s old new w r same passed failed = rw same (λ start all grew within. by_answer r passed failed (λ passed. Grew-counted start all old grew s w passed) (λ e how. Loses-missed start all old grew s (fault e) w _ refl how))

-- the stores of a life by their parts
abbrev pub life : Kept (At Block) → Watch → Kept (At Finalization) → Watch → Option Processed → Cutoff → Round → List Pair → HeldCache → ℕ → List ℕ → Writing → Watch → Watch → Bool → Held
life blocks of_blocks certs of_certs processed cutoff witnessed pairs waits lowest lowests writes meta cache intact = record {
  blocks = blocks;
  certs = certs;
  processed = processed;
  cutoff = cutoff;
  witnessed = witnessed;
  pairs = pairs;
  cache = waits;
  lowest = lowest;
  lowests = lowests;
  writes = writes;
  watches = record { blocks = of_blocks; certs = of_certs; meta = meta; cache = cache };
  intact = intact;
}

-- what is held stays where the blocks or the finalizations were read
module _ {S W : Type 0} {of_blocks of_certs meta cache : Watch} {processed : Option Processed} {cutoff : Cutoff} {witnessed : Round} {pairs : List Pair} {waits : HeldCache} {lowest : ℕ} {lowests : List ℕ} {writes : Writing} where
  pub blocks_read : (stored : S → Kept (At Block)) (number : S → ℕ) (covers : S → ℕ → List (At Block)) (left : W → Left (At Block)) {certs : Kept (At Finalization)} (rest : Bool) (old new : Place S W) → IsReadIn stored number covers left old new
      → life (kept_at stored left new) of_blocks certs of_certs processed cutoff witnessed pairs waits lowest lowests writes meta cache (is_open new && rest)
      ≡ life (kept_at stored left old) of_blocks certs of_certs processed cutoff witnessed pairs waits lowest lowests writes meta cache (is_open old && rest)
  blocks_read stored number covers left rest old new read = rw (read_same stored number covers left old new read, read_open stored number covers left old new read) refl

  pub certs_read : (stored : S → Kept (At Finalization)) (number : S → ℕ) (covers : S → ℕ → List (At Finalization)) (left : W → Left (At Finalization)) {blocks : Kept (At Block)} (here rest : Bool) (old new : Place S W) → IsReadIn stored number covers left old new
      → life blocks of_blocks (kept_at stored left new) of_certs processed cutoff witnessed pairs waits lowest lowests writes meta cache (here && (is_open new && rest))
      ≡ life blocks of_blocks (kept_at stored left old) of_certs processed cutoff witnessed pairs waits lowest lowests writes meta cache (here && (is_open old && rest))
  certs_read stored number covers left here rest old new read = rw (read_same stored number covers left old new read, read_open stored number covers left old new read) refl

-- a store that is there still is changed in what it keeps, or in what waits for a sync, and in nothing else
module _ {blocks : Kept (At Block)} {certs : Kept (At Finalization)} {of_blocks of_certs meta cache : Watch} {processed : Option Processed} {cutoff : Cutoff} {witnessed : Round} {pairs : List Pair} {waits : HeldCache} {lowest : ℕ} {lowests : List ℕ} {writes : Writing} (rest : Bool) {a b : Bool} where
  pub blocks_still : {later : Writing} → a ≡ b → later ≡ writes → life blocks of_blocks certs of_certs processed cutoff witnessed pairs waits lowest lowests later meta cache (a && rest) ≡ life blocks of_blocks certs of_certs processed cutoff witnessed pairs waits lowest lowests writes meta cache (b && rest)
  blocks_still still writing = rw (still, writing) refl

  pub certs_still : (here : Bool) → a ≡ b → life blocks of_blocks certs of_certs processed cutoff witnessed pairs waits lowest lowests writes meta cache (here && (a && rest)) ≡ life blocks of_blocks certs of_certs processed cutoff witnessed pairs waits lowest lowests writes meta cache (here && (b && rest))
  certs_still here still = rw still refl

  -- both archives are there still
  pub both_still : {later : Writing} {c d : Bool} → a ≡ b → c ≡ d → later ≡ writes → life blocks of_blocks certs of_certs processed cutoff witnessed pairs waits lowest lowests later meta cache (a && (c && rest)) ≡ life blocks of_blocks certs of_certs processed cutoff witnessed pairs waits lowest lowests writes meta cache (b && (d && rest))
  both_still first second writing = rw (first, second, writing) refl

  -- and keep what they kept
  pub both_same : {was : Kept (At Block)} {were : Kept (At Finalization)} {later : Writing} {c d : Bool} → was ≡ blocks → were ≡ certs → a ≡ b → c ≡ d → later ≡ writes → life was of_blocks were of_certs processed cutoff witnessed pairs waits lowest lowests later meta cache (a && (c && rest)) ≡ life blocks of_blocks certs of_certs processed cutoff witnessed pairs waits lowest lowests writes meta cache (b && (d && rest))
  both_same first second here there writing = rw (first, second, here, there, writing) refl

-- the cache was read
pub cache_read : {blocks : Kept (At Block)} {certs : Kept (At Finalization)} {of_blocks of_certs meta w : Watch} {processed : Option Processed} {cutoff : Cutoff} {witnessed : Round} {pairs : List Pair} {waits now : LifeEntries} {covers later : CacheTicket → List Cached} (tickets : List OpenTicket) {lowest lowest' : ℕ} {lowests lowests' : List ℕ} {writes : Writing} {near near' : Bool} (here there rest : Bool) → later ≡ covers → (now ≡ waits) × (lowest' ≡ lowest) × (lowests' ≡ lowests) × (near' ≡ near)
    → life blocks of_blocks certs of_certs processed cutoff witnessed pairs (with_syncs now later tickets) lowest' lowests' writes meta w (here && (there && (near' && rest)))
    ≡ life blocks of_blocks certs of_certs processed cutoff witnessed pairs (with_syncs waits covers tickets) lowest lowests writes meta w (here && (there && (near && rest)))
cache_read tickets here there rest covered (waits, lowest, lowests, near) = rw (covered, waits, lowest, lowests, near) refl

-- it was changed, and has the same lowest epoch
pub cache_changed : {blocks : Kept (At Block)} {certs : Kept (At Finalization)} {of_blocks of_certs meta w : Watch} {processed : Option Processed} {cutoff : Cutoff} {witnessed : Round} {pairs : List Pair} {waits : HeldCache} {lowest lowest' : ℕ} {lowests lowests' : List ℕ} {writes : Writing} {near near' : Bool} (here there rest : Bool) → lowest' ≡ lowest → lowests' ≡ lowests → near' ≡ near
    → life blocks of_blocks certs of_certs processed cutoff witnessed pairs waits lowest' lowests' writes meta w (here && (there && (near' && rest)))
    ≡ life blocks of_blocks certs of_certs processed cutoff witnessed pairs waits lowest lowests writes meta w (here && (there && (near && rest)))
cache_changed here there rest lowest lowests near = rw (lowest, lowests, near) refl

-- it was pruned
pub cache_pruned : {blocks : Kept (At Block)} {certs : Kept (At Finalization)} {of_blocks of_certs meta w : Watch} {processed : Option Processed} {cutoff : Cutoff} {witnessed : Round} {pairs : List Pair} {now : HeldCache} {lowest' : ℕ} {lowests' : List ℕ} {writes : Writing} {near near' : Bool} (here there rest : Bool) → near' ≡ near
    → life blocks of_blocks certs of_certs processed cutoff witnessed pairs now lowest' lowests' writes meta w (here && (there && (near' && rest)))
    ≡ life blocks of_blocks certs of_certs processed cutoff witnessed pairs now lowest' lowests' writes meta w (here && (there && (near && rest)))
cache_pruned here there rest near = rw near refl

-- the metadata is as it was to be
pub progress_is : {blocks : Kept (At Block)} {certs : Kept (At Finalization)} {of_blocks of_certs cache : Watch} {waits : HeldCache} {lowest : ℕ} {lowests : List ℕ} {writes : Writing} {now wanted : Progress} (here there near : Bool) → now ≡ wanted
    → life blocks of_blocks certs of_certs now.processed now.cutoff now.witnessed now.pairs waits lowest lowests writes now.watch cache (here && (there && (near && now.intact)))
    ≡ life blocks of_blocks certs of_certs wanted.processed wanted.cutoff wanted.witnessed wanted.pairs waits lowest lowests writes now.watch cache (here && (there && (near && wanted.intact)))
progress_is here there near is = rw is refl
