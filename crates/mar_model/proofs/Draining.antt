-- Acknowledged blocks that are processed one after another.
use Rattle.std.proofs.Common.{◌≡◌, ℕ, ◌+◌, List, [], ◌∷◌, ◌++◌, length, flat_map, fold, Contains, Bool, true, false, if◌then◌else◌, nat_lt, is_some, Option, Some, None, option_to_list, refl, sym, ◌∙◌, ap, ap₂, subst, arith, append_assoc, append-nil, length-append}
use Rattle.std.proofs.lemmas.Bool.Decides.{nat_tests}
use Rattle.std.proofs.lemmas.Grind.{flat_map-append}
use Rattle.std.proofs.lemmas.List.Elements.{Contains-append_left, Contains-append_right}
use Rattle.mar_types.specs.Round.{Round}
use Rattle.mar_types.specs.Epochs.{Epochs}
use Rattle.mar_cert.specs.Finalization.{Finalization}
use Rattle.mar_key.specs.Cutoff.{Cutoff, greatest_of}
use Rattle.mar_key.specs.Hears.{Hears}
use Rattle.mar_key.specs.Keys.{Call, above_height, retain}
use Rattle.mar_key.specs.Processed.{Processed, at_block}
use Rattle.mar_key.proofs.CutoffOrder.{greatest_of-append}
use Rattle.mar_store.specs.Kept.{At}
use Rattle.mar_model.specs.Acks.{Outstanding, after_given, after_oldest, dropped_oldest, given_front, given_oldest, is_given}
use Rattle.mar_model.specs.Event.{acked_to, all_retired, retired, round_at}
use Rattle.mar_model.specs.Held.{Grew, Held, Seen, WithinWritten, Written, written_prunes}
use Rattle.mar_model.specs.Lives.{later_round}
use Rattle.mar_model.specs.Moves.{Drains, DrainsNext, HearsFront, PrunesCacheBy, PrunesProcessed, processed_prunes, pruned_by, rounds_of, with_cache_of, with_processed}
use Rattle.mar_model.specs.Requests.{raise_asks, retire_asks}
use Rattle.mar_model.proofs.CachePrunes.{PrunesCacheBy-none, PrunesCacheBy-then, last_after, later_rounds-of, pruned_by-append, rounds_of-append}
use Rattle.mar_model.proofs.Handing.{Hears-nothing, Hears-then, HearsFront-more, HearsFront-then}

-- THE OLDEST, AND THE GIVEN ONES AT THE FRONT

-- one given entry after another
front_next : (out : List Outstanding) → given_front out ≡ option_to_list (given_oldest out) ++ given_front (after_oldest out)
front_next [] = refl
front_next (a ∷ out) = by (is_given a.mark) refl
  where
    by : (b : Bool) → is_given a.mark ≡ b → (if b then a ∷ given_front out else []) ≡ option_to_list (if b then Some a else None) ++ given_front (if b then out else a ∷ out)
    by true given = refl
    by false waits = ap (λ (b : Bool). if b then a ∷ given_front out else []) (sym waits)

rest_next : (out : List Outstanding) → after_given (after_oldest out) ≡ after_given out
rest_next [] = refl
rest_next (a ∷ out) = by (is_given a.mark) refl
  where
    by : (b : Bool) → is_given a.mark ≡ b → after_given (if b then out else a ∷ out) ≡ (if b then after_given out else a ∷ out)
    by true given = refl
    by false waits = ap (λ (b : Bool). if b then after_given out else a ∷ out) waits

-- where the oldest isn't given, none is at the front
none_front : (out : List Outstanding) → is_some (given_oldest out) ≡ false → given_front out ≡ []
none_front [] none = refl
none_front (a ∷ out) none = by (is_given a.mark) none
  where
    by : (b : Bool) → is_some (if b then Some a else None) ≡ false → (if b then a ∷ given_front out else []) ≡ []
    by true e = absurd cc
    by false e = refl

none_after : (out : List Outstanding) → is_some (given_oldest out) ≡ false → after_given out ≡ out
none_after [] none = refl
none_after (a ∷ out) none = by (is_given a.mark) none
  where
    by : (b : Bool) → is_some (if b then Some a else None) ≡ false → (if b then after_given out else a ∷ out) ≡ a ∷ out
    by true e = absurd cc
    by false e = refl

same_oldest : (out : List Outstanding) → is_some (given_oldest out) ≡ false → after_oldest out ≡ out
same_oldest [] none = refl
same_oldest (a ∷ out) none = by (is_given a.mark) none
  where
    by : (b : Bool) → is_some (if b then Some a else None) ≡ false → (if b then out else a ∷ out) ≡ a ∷ out
    by true e = absurd cc
    by false e = refl

one_oldest : (out : List Outstanding) → is_some (given_oldest out) ≡ true → length (option_to_list (given_oldest out)) ≡ 1
one_oldest out some = by (given_oldest out) some
  where
    by : (o : Option Outstanding) → is_some o ≡ true → length (option_to_list o) ≡ 1
    by None e = absurd cc
    by (Some a) e = refl

none_oldest : (out : List Outstanding) → is_some (given_oldest out) ≡ false → option_to_list (given_oldest out) ≡ []
none_oldest out none = by (given_oldest out) none
  where
    by : (o : Option Outstanding) → is_some o ≡ false → option_to_list o ≡ []
    by None e = refl
    by (Some a) e = absurd cc

-- WHAT IS ASKED AND WITNESSED

retire_asks-append : (epochs : Epochs) (certs : List (At Finalization)) (c : Cutoff) (xs ys : List Outstanding) → retire_asks epochs certs c (xs ++ ys) ≡ retire_asks epochs certs c xs ++ retire_asks epochs certs (greatest_of c (flat_map (λ o. retired epochs certs o.height) xs)) ys
retire_asks-append epochs certs c [] ys = refl
retire_asks-append epochs certs c (x ∷ xs) ys =
    ap (λ zs. retain (above_height x.height) ∷ zs)
    (ap (λ zs. raise_asks c (retired epochs certs x.height) ++ zs) (retire_asks-append epochs certs (greatest_of c (retired epochs certs x.height)) xs ys)
    ∙ sym (append_assoc (raise_asks c (retired epochs certs x.height)) (retire_asks epochs certs (greatest_of c (retired epochs certs x.height)) xs) _)
    ∙ ap (λ d. (raise_asks c (retired epochs certs x.height) ++ retire_asks epochs certs (greatest_of c (retired epochs certs x.height)) xs) ++ retire_asks epochs certs d ys) (sym (greatest_of-append c (retired epochs certs x.height) (flat_map (λ o. retired epochs certs o.height) xs))))

acked_to-append : (p : Option Processed) (xs ys : List Outstanding) → acked_to p (xs ++ ys) ≡ acked_to (acked_to p xs) ys
acked_to-append p [] ys = refl
acked_to-append p (x ∷ xs) ys = acked_to-append (Some (at_block x.height)) xs ys

fold-append : {X Y : Type 0} (f : Y → X → Y) (y : Y) (xs zs : List X) → fold f y (xs ++ zs) ≡ fold f (fold f y xs) zs
fold-append f y [] zs = refl
fold-append f y (x ∷ xs) zs = fold-append f (f y x) xs zs

abbrev cutoffs_of : {P E : Type 0} → Epochs → Seen P E → List Outstanding → List Cutoff
cutoffs_of epochs a zs = all_retired epochs a.held.certs.held zs

abbrev later_in : {P E : Type 0} → Seen P E → Round → Outstanding → Round
later_in a r o = later_round r (round_at a.held.certs.held o.height)

abbrev remade : {P E : Type 0} → Seen P E → List Outstanding → Held → Option Processed → Cutoff → Round → Seen P E
remade a out now p c w = record a { held = record (with_cache_of now a.held) { processed = p; cutoff = c; witnessed = w }; life = record a.life { out = out } }

pub with_processed-then : {P E : Type 0} (epochs : Epochs) (a : Seen P E) (xs ys out out' : List Outstanding) (now now' : Held) → with_processed epochs (with_processed epochs a xs out now) ys out' now' ≡ with_processed epochs a (xs ++ ys) out' now'
with_processed-then epochs a xs ys out out' now now' =
    ap (λ p. remade a out' now' p (greatest_of (greatest_of a.held.cutoff (cutoffs_of epochs a xs)) (cutoffs_of epochs a ys)) (fold (later_in a) (fold (later_in a) a.held.witnessed xs) ys)) (sym (acked_to-append a.held.processed xs ys))
    ∙ (ap (λ c. remade a out' now' (acked_to a.held.processed (xs ++ ys)) c (fold (later_in a) (fold (later_in a) a.held.witnessed xs) ys)) (sym (greatest_of-append a.held.cutoff (cutoffs_of epochs a xs) (cutoffs_of epochs a ys)) ∙ ap (λ cs. greatest_of a.held.cutoff cs) (sym (flat_map-append (λ o. retired epochs a.held.certs.held o.height) xs ys)))
    ∙ ap (λ w. remade a out' now' (acked_to a.held.processed (xs ++ ys)) (greatest_of a.held.cutoff (cutoffs_of epochs a (xs ++ ys))) w) (sym (fold-append (later_in a) a.held.witnessed xs ys)))

-- what is processed next prunes from the last one witnessed on
processed_prunes-then : {P E : Type 0} (epochs : Epochs) (a m : Seen P E) (xs ys : List Outstanding) → m ≡ with_processed epochs a xs m.life.out m.held → processed_prunes a (xs ++ ys) ≡ processed_prunes a xs ++ processed_prunes m ys
processed_prunes-then epochs a m xs ys same =
    ap (pruned_by a.life.sizes.retention a.held.witnessed) (rounds_of-append a.held.certs.held xs ys)
    ∙ (pruned_by-append a.life.sizes.retention a.held.witnessed (rounds_of a.held.certs.held xs) (rounds_of a.held.certs.held ys)
    ∙ ap (λ rounds. processed_prunes a xs ++ rounds) (sym (ap (λ s. processed_prunes s ys) same ∙ ap (λ r. pruned_by a.life.sizes.retention r (rounds_of a.held.certs.held ys)) (later_rounds-of a.held.certs.held a.held.witnessed xs))))

PrunesProcessed-then : {P E : Type 0} (epochs : Epochs) (a m : Seen P E) (xs ys : List Outstanding) (now : Held) → m ≡ with_processed epochs a xs m.life.out m.held → PrunesProcessed a xs m.held → PrunesProcessed m ys now → PrunesProcessed a (xs ++ ys) now
PrunesProcessed-then epochs a m xs ys now same first second =
    subst (λ rounds. PrunesCacheBy rounds a.held now) (sym (processed_prunes-then epochs a m xs ys same))
    (PrunesCacheBy-then (processed_prunes a xs) (processed_prunes m ys) a.held m.held now first second)

-- SO FAR

-- What was drained so far.
pub record DrainsSoFar {P E : Type 0} (epochs : Epochs) (start now : Seen P E) (told told' : Option (List Call)) (drained : Bool) (count : ℕ) : Type 0 where
  pub done : List Outstanding
  pub front : given_front start.life.out ≡ done ++ given_front now.life.out
  pub rest : after_given now.life.out ≡ after_given start.life.out
  pub heard : Hears told (retire_asks epochs start.held.certs.held start.held.cutoff done) told'
  pub prunes : PrunesProcessed start done now.held
  pub same : now ≡ with_processed epochs start done now.life.out now.held
  pub grew : (first : Held) (all : Written) → Grew first all start.held → WithinWritten (written_prunes (processed_prunes start (given_front start.life.out))) all → Grew first all now.held
  pub is_drained : drained ≡ nat_lt 0 (length done)
  pub counted : count ≡ length done

pub DrainsSoFar-first : {P E : Type 0} (epochs : Epochs) (start : Seen P E) (told : Option (List Call)) → DrainsSoFar epochs start start told told false 0
DrainsSoFar-first epochs start told = record { done = []; front = refl; rest = refl; heard = Hears-nothing told; prunes = PrunesCacheBy-none start.held start.held refl refl refl; same = refl; grew = λ first all grew within. grew; is_drained = refl; counted = refl }

module _ {P E : Type 0} (epochs_of : E → Epochs) (start now : Seen P E) (told told' : Option (List Call)) (drained : Bool) (count : ℕ) (so_far : DrainsSoFar (epochs_of start.life.epocher) start now told told' drained count) where
  abbrev pub epochs : Epochs
  epochs = epochs_of start.life.epocher

  abbrev pub one : List Outstanding
  one = option_to_list (given_oldest now.life.out)

  epochs_now : epochs_of now.life.epocher ≡ epochs
  epochs_now = ap (λ a. epochs_of a.life.epocher) so_far.same

  certs_now : now.held.certs.held ≡ start.held.certs.held
  certs_now = ap (λ a. a.held.certs.held) so_far.same

  -- one more was processed, or there was none
  after_next : (new : Seen P E) (is_processed : Bool) → DrainsNext (epochs_of now.life.epocher) now is_processed new → new ≡ with_processed epochs start (so_far.done ++ one) (after_oldest now.life.out) new.held
  after_next new is_processed next =
      next.same
      ∙ (ap (λ es. with_processed es now one (after_oldest now.life.out) new.held) epochs_now
      ∙ (ap (λ a. with_processed epochs a one (after_oldest now.life.out) new.held) so_far.same
      ∙ with_processed-then epochs start so_far.done one now.life.out (after_oldest now.life.out) now.held new.held))

  -- it pruned the cache further
  prunes_next : (new : Seen P E) (is_processed : Bool) → DrainsNext (epochs_of now.life.epocher) now is_processed new → PrunesProcessed start (so_far.done ++ one) new.held
  prunes_next new is_processed next = PrunesProcessed-then epochs start now so_far.done one new.held so_far.same so_far.prunes next.prunes

  out_is : (new : Seen P E) (is_processed : Bool) → DrainsNext (epochs_of now.life.epocher) now is_processed new → new.life.out ≡ after_oldest now.life.out
  out_is new is_processed next = ap (λ a. a.life.out) next.same

  heard_next : (told'' : Option (List Call)) → Hears told' (retire_asks (epochs_of now.life.epocher) now.held.certs.held now.held.cutoff one) told'' → Hears told (retire_asks epochs start.held.certs.held start.held.cutoff (so_far.done ++ one)) told''
  heard_next told'' heard = subst (λ zs. Hears told zs told'') (sym (retire_asks-append epochs start.held.certs.held start.held.cutoff so_far.done one))
      (Hears-then told told' told'' (retire_asks epochs start.held.certs.held start.held.cutoff so_far.done) _ so_far.heard
      (subst (λ c. Hears told' (retire_asks epochs start.held.certs.held c one) told'') (ap (λ a. a.held.cutoff) so_far.same)
      (subst (λ cs. Hears told' (retire_asks epochs cs now.held.cutoff one) told'') certs_now
      (subst (λ es. Hears told' (retire_asks es now.held.certs.held now.held.cutoff one) told'') epochs_now heard))))

  -- what the next one writes is among what all of them do
  pub next_written : (all : Written) → WithinWritten (written_prunes (processed_prunes start (given_front start.life.out))) all → WithinWritten (written_prunes (processed_prunes now one)) all
  next_written all within = record { blocks = within.blocks; certs = within.certs; cached = within.cached; prunes = λ r has. within.prunes r (subst (λ rs. Contains rs r) (sym whole) (Contains-append_right (processed_prunes start so_far.done) (processed_prunes now (given_front now.life.out)) r (front r has))); pairs = within.pairs; blocks_from = within.blocks_from; certs_from = within.certs_from }
    where
      whole : processed_prunes start (given_front start.life.out) ≡ processed_prunes start so_far.done ++ processed_prunes now (given_front now.life.out)
      whole = ap (processed_prunes start) so_far.front ∙ processed_prunes-then epochs start now so_far.done (given_front now.life.out) so_far.same

      next : processed_prunes now (given_front now.life.out) ≡ processed_prunes now one ++ pruned_by now.life.sizes.retention (last_after now.held.witnessed (rounds_of now.held.certs.held one)) (rounds_of now.held.certs.held (given_front (after_oldest now.life.out)))
      next = ap (processed_prunes now) (front_next now.life.out) ∙ (ap (pruned_by now.life.sizes.retention now.held.witnessed) (rounds_of-append now.held.certs.held one (given_front (after_oldest now.life.out))) ∙ pruned_by-append now.life.sizes.retention now.held.witnessed (rounds_of now.held.certs.held one) (rounds_of now.held.certs.held (given_front (after_oldest now.life.out))))

      front : (r : Round) → Contains (processed_prunes now one) r → Contains (processed_prunes now (given_front now.life.out)) r
      front r has = subst (λ rs. Contains rs r) (sym next) (Contains-append_left (processed_prunes now one) _ r has)

  -- the next one ended the life
  pub front_heard : (told'' : Option (List Call)) → HearsFront told' (retire_asks (epochs_of now.life.epocher) now.held.certs.held now.held.cutoff one) told'' → HearsFront told (retire_asks epochs start.held.certs.held start.held.cutoff (given_front start.life.out)) told''
  front_heard told'' front = subst (λ zs. HearsFront told zs told'') (sym whole)
      (HearsFront-more told (retire_asks epochs start.held.certs.held start.held.cutoff so_far.done ++ retire_asks epochs now.held.certs.held now.held.cutoff one) more told''
      (HearsFront-then told (retire_asks epochs start.held.certs.held start.held.cutoff so_far.done) told' (retire_asks epochs now.held.certs.held now.held.cutoff one) told'' so_far.heard
      (subst (λ es. HearsFront told' (retire_asks es now.held.certs.held now.held.cutoff one) told'') epochs_now front)))
    where
      after : Cutoff
      after = greatest_of now.held.cutoff (all_retired epochs now.held.certs.held one)

      more : List Call
      more = retire_asks epochs now.held.certs.held after (given_front (after_oldest now.life.out))

      whole : retire_asks epochs start.held.certs.held start.held.cutoff (given_front start.life.out) ≡ (retire_asks epochs start.held.certs.held start.held.cutoff so_far.done ++ retire_asks epochs now.held.certs.held now.held.cutoff one) ++ more
      whole =
          ap (retire_asks epochs start.held.certs.held start.held.cutoff) (so_far.front ∙ ap (λ zs. so_far.done ++ zs) (front_next now.life.out))
          ∙ (retire_asks-append epochs start.held.certs.held start.held.cutoff so_far.done (one ++ given_front (after_oldest now.life.out))
          ∙ (ap₂ (λ c cs. retire_asks epochs start.held.certs.held start.held.cutoff so_far.done ++ retire_asks epochs cs c (one ++ given_front (after_oldest now.life.out))) (sym (ap (λ a. a.held.cutoff) so_far.same)) (sym certs_now)
          ∙ (ap (λ zs. retire_asks epochs start.held.certs.held start.held.cutoff so_far.done ++ zs) (retire_asks-append epochs now.held.certs.held now.held.cutoff one (given_front (after_oldest now.life.out)))
          ∙ sym (append_assoc (retire_asks epochs start.held.certs.held start.held.cutoff so_far.done) (retire_asks epochs now.held.certs.held now.held.cutoff one) more))))

  pub DrainsSoFar-more : (new : Seen P E) (told'' : Option (List Call)) (is_processed : Bool) → is_processed ≡ true → DrainsNext (epochs_of now.life.epocher) now is_processed new → Hears told' (retire_asks (epochs_of now.life.epocher) now.held.certs.held now.held.cutoff one) told'' → ((first : Held) (all : Written) → Grew first all start.held → WithinWritten (written_prunes (processed_prunes start (given_front start.life.out))) all → Grew first all new.held) → DrainsSoFar epochs start new told told'' true (count + 1)
  DrainsSoFar-more new told'' is_processed was next heard grew = record {
    done = so_far.done ++ one;
    front = so_far.front ∙ (ap (λ zs. so_far.done ++ zs) (front_next now.life.out) ∙ (sym (append_assoc so_far.done one (given_front (after_oldest now.life.out))) ∙ ap (λ o. (so_far.done ++ one) ++ given_front o) (sym (out_is new is_processed next))));
    rest = ap after_given (out_is new is_processed next) ∙ (rest_next now.life.out ∙ so_far.rest);
    heard = heard_next told'' heard;
    prunes = prunes_next new is_processed next;
    same = after_next new is_processed next ∙ ap (λ o. with_processed epochs start (so_far.done ++ one) o new.held) (sym (out_is new is_processed next));
    grew = grew;
    is_drained = sym (more (length (so_far.done ++ one)) longer);
    counted = counted;
  }
    where
      single : length one ≡ 1
      single = one_oldest now.life.out (sym next.processed ∙ was)

      longer : length (so_far.done ++ one) ≡ length so_far.done + 1
      longer = length-append so_far.done one ∙ ap (λ k. length so_far.done + k) single

      counted : count + 1 ≡ length (so_far.done ++ one)
      counted = ap (λ k. k + 1) so_far.counted ∙ sym longer

      more : (k : ℕ) → k ≡ length so_far.done + 1 → nat_lt 0 k ≡ true
      more k is = grind (arith, nat_tests)

  -- no given one is left at the front
  pub Drains-still : (new : Seen P E) (told'' : Option (List Call)) (is_processed : Bool) → is_processed ≡ false → DrainsNext (epochs_of now.life.epocher) now is_processed new → Hears told' (retire_asks (epochs_of now.life.epocher) now.held.certs.held now.held.cutoff one) told'' → Drains epochs start drained new × Hears told (retire_asks epochs start.held.certs.held start.held.cutoff (given_front start.life.out)) told''
  Drains-still new told'' is_processed was next heard = (
    record {
      prunes = subst (λ zs. PrunesProcessed start zs new.held) all (prunes_next new is_processed next);
      same = after_next new is_processed next ∙ (ap (λ zs. with_processed epochs start zs (after_oldest now.life.out) new.held) all ∙ ap (λ o. with_processed epochs start (given_front start.life.out) o new.held) (same_oldest now.life.out none ∙ (sym (none_after now.life.out none) ∙ so_far.rest)));
      drained = so_far.is_drained ∙ ap (λ zs. nat_lt 0 (length zs)) done_is;
      not_dropped = ap dropped_oldest (sym so_far.rest ∙ none_after now.life.out none) ∙ next.not_dropped;
    },
    subst (λ zs. Hears told (retire_asks epochs start.held.certs.held start.held.cutoff zs) told'') all (heard_next told'' heard),
  )
    where
      none : is_some (given_oldest now.life.out) ≡ false
      none = sym next.processed ∙ was

      done_is : so_far.done ≡ given_front start.life.out
      done_is = sym (append-nil so_far.done) ∙ (ap (λ zs. so_far.done ++ zs) (sym (none_front now.life.out none)) ∙ sym so_far.front)

      all : so_far.done ++ one ≡ given_front start.life.out
      all = ap (λ zs. so_far.done ++ zs) (none_oldest now.life.out none) ∙ (append-nil so_far.done ∙ done_is)
