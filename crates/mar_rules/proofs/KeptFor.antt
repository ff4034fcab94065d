-- What the calls of a rule that keeps a block come to.
use Rattle.std.proofs.Common.{IfErr, ◌≡◌, ◌⊎◌, inl, inr, ◌<◌, ◌≤◌, ◌==◌, ◌&&◌, ◌||◌, ℕ, List, [], ◌∷◌, ◌++◌, Bool, true, false, cond, filter, Option, Some, None, Result, Ok, Err, IfOk, OnOk, Contains, refl, sym, ◌∙◌, ap, subst, arith}
use Rattle.std.specs.List.{list_any}
use Rattle.std.proofs.lemmas.Bool.{cases_lt, eq-eqb}
use Rattle.std.proofs.lemmas.List.Elements.{Contains-append_left, Contains-append_right}
use Rattle.mar_types.specs.Round.{Round}
use Rattle.mar_cert.specs.Block.{Block}
use Rattle.mar_cert.specs.Finalization.{Notarization}
use Rattle.mar_model.specs.Cache.{certified_covers, is_notarization_of, is_notarized_of, is_verified_of, notarized_where, same_archive, verified_at}
use Rattle.mar_model.specs.CacheCalls.{GivesTicket, JoinsTickets, StartsSync, is_of_archive, none_goes}
use Rattle.mar_model.specs.AllEntries.{PutsEntry}
use Rattle.mar_model.specs.Cached.{Cached, cached_block, certified_entry, epoch_of, finalization_entry, notarization_entry, notarized_entry, verified_entry}
use Rattle.mar_model.specs.Entries.{has_digest, is_verified_at}
use Rattle.mar_model.specs.Acts.{IsKeepFault}
use Rattle.mar_model.specs.Faults.{Fault}
use Rattle.mar_model.specs.Held.{AreCached, Held, IsUsual}
use Rattle.mar_model.specs.Moves.{CachesEntry, KeepsFor, KeepsNotarizedWhere, PutsAll, StartsCacheSync, is_verified_in, with_cache_sync}
use Rattle.mar_model.specs.OpenSyncs.{AreStillOpen}
use Rattle.mar_model.specs.declared.CacheTicket.{CacheTicket}
use Rattle.mar_model.specs.declared.Section.TheVariants.{Notarizations, Notarized, Verified}
use Rattle.mar_model.specs.declared.Started.{Started}
use Rattle.mar_model.specs.declared.Started.TheVariants.{Ready, Ticket}
use Rattle.mar_model.specs.Writing.{with_ticket}
use Rattle.mar_model.proofs.CacheSteps.{place_epoch}
use Rattle.mar_model.proofs.CertifiedBlocks.{verified-is}
use Rattle.mar_model.proofs.EntryLists.{contains_here, contains_more, filter_passed}
use Rattle.mar_model.proofs.KeptEach.{KeepsNotarizedWhere-unread}
use Rattle.mar_model.proofs.OpenSyncs.{AreStillOpen-then}
use Rattle.mar_rules.specs.Keeping.{IsUntaken, PutsCertified, block_section, joined_of, opened_for, ticket_for}

-- ENTRIES OF AN ARCHIVE

eqb-sym : (a b : ℕ) → (a == b) ≡ (b == a)
eqb-sym a b = grind arith

and_true : (d : Bool) → (d && true) ≡ d
and_true true = refl
and_true false = refl

and_false : (d : Bool) → (d && false) ≡ false
and_false true = refl
and_false false = refl

pub verified_archive : (r : Round) (b : Block) (x : Cached) → is_verified_of r.epoch x ≡ same_archive (verified_entry r b) x
verified_archive r b (verified_entry s c) = eqb-sym s.epoch r.epoch
verified_archive r b (finalization_entry f) = refl
verified_archive r b (notarized_entry s c) = refl
verified_archive r b (certified_entry k c) = refl
verified_archive r b (notarization_entry n) = refl

pub notarized_archive : (r : Round) (b : Block) (x : Cached) → is_notarized_of r.epoch x ≡ same_archive (notarized_entry r b) x
notarized_archive r b (notarized_entry s c) = eqb-sym s.epoch r.epoch
notarized_archive r b (verified_entry s c) = refl
notarized_archive r b (finalization_entry f) = refl
notarized_archive r b (certified_entry k c) = refl
notarized_archive r b (notarization_entry n) = refl

pub notarization_archive : (f : Notarization) (x : Cached) → is_notarization_of f.round.epoch x ≡ same_archive (notarization_entry f) x
notarization_archive f (notarization_entry n) = eqb-sym n.round.epoch f.round.epoch
notarization_archive f (verified_entry s c) = refl
notarization_archive f (notarized_entry s c) = refl
notarization_archive f (finalization_entry g) = refl
notarization_archive f (certified_entry k c) = refl

notarized_section : (r : Round) (b : Block) (x : Cached) → is_of_archive r.epoch Notarized x ≡ same_archive (notarized_entry r b) x
notarized_section r b (notarized_entry s c) = and_true (s.epoch == r.epoch) ∙ eqb-sym s.epoch r.epoch
notarized_section r b (verified_entry s c) = and_false (s.epoch == r.epoch)
notarized_section r b (finalization_entry f) = and_false (f.round.epoch == r.epoch)
notarized_section r b (certified_entry k c) = and_false (k == r.epoch)
notarized_section r b (notarization_entry n) = and_false (n.round.epoch == r.epoch)

-- what the sync of a certified block is to cover stands in one of its two archives
of_archive : (e : ℕ) (c : Bool) (x : Cached) → certified_covers e c x ≡ true → (is_of_archive e Notarizations x ≡ true) ⊎ (is_of_archive e (block_section c) x ≡ true)
of_archive e c (notarization_entry n) is = inl (ap (λ d. d && true) (or_false (n.round.epoch == e) c is))
  where
    or_false : (d c : Bool) → (d || cond c false false) ≡ true → d ≡ true
    or_false true c on = refl
    or_false false true on = absurd cc
    or_false false false on = absurd cc
of_archive e true (verified_entry s b) is = inr (ap (λ d. d && true) is)
of_archive e false (verified_entry s b) is = absurd cc
of_archive e true (notarized_entry s b) is = absurd cc
of_archive e false (notarized_entry s b) is = inr (ap (λ d. d && true) is)
of_archive e true (certified_entry k b) is = absurd cc
of_archive e false (certified_entry k b) is = absurd cc
of_archive e true (finalization_entry f) is = absurd cc
of_archive e false (finalization_entry f) is = absurd cc

-- A SYNC THAT IS TAKEN IN

-- an entry was put, and the sync of its archive that was started is taken in
pub kept_entry : (e : Cached) (covered : Cached → Bool) (answer : Option ℕ) (started : Started) (old mid : Held) (covers now : CacheTicket → List Cached) → ((x : Cached) → covered x ≡ same_archive e x) → CachesEntry e started old mid covers now → KeepsFor (epoch_of e) (e ∷ []) covered answer (ticket_for started mid) old (opened_for now started answer mid)
kept_entry e covered answer Ready old mid covers now archive caches = record {
  below = λ low. (refl, ap (λ k. k) (caches.puts.ready low).1, caches.still_open);
  done = λ loaded from. absurd (caches.puts.done loaded from).1;
  loaded = caches.loaded;
  same = caches.same;
}
kept_entry e covered answer (Ticket t) old mid covers now archive caches = record {
  below = λ low. absurd (let is = (caches.puts.ready low).0 in cc);
  done = λ loaded from. let (puts, gives) = caches.puts.done loaded from in (
    ap (λ h. Some h.writes.next_sync) caches.same,
    (mid.cache.kept, puts, refl),
    record {
      still = mid.cache.syncs;
      still_open = caches.still_open;
      entries = now t;
      covers = λ x has passes. subst (λ xs. Contains xs x) (sym gives.2) (filter_passed (same_archive e) mid.cache.kept.held x has (sym (archive x) ∙ passes));
      are = ap (λ k. mid.cache.syncs ++ record { ticket = k; entries = now t; answer = answer } ∷ []) (ap (λ h. h.writes.next_sync) caches.same);
    },
  );
  loaded = caches.loaded;
  same = ap (λ (h : Held). record h { cache = (with_cache_sync (now t) answer mid).cache; writes = with_ticket h.writes }) caches.same;
}

-- the sync of a certified block, joined with that of the notarizations, is taken in
pub kept_certified : (r : Round) (b : Block) (answer : Option ℕ) (started others : Started) (old mid new : Held) (covers now later : CacheTicket → List Cached) → JoinsTickets later → PutsCertified r b started old mid covers now → StartsCacheSync r.epoch Notarizations others mid new now later
    → KeepsFor r.epoch (notarized_where (is_verified_in old r b) r b) (certified_covers r.epoch (is_verified_in old r b)) answer (ticket_for (joined_of started others) new) old (opened_for later (joined_of started others) answer new)
kept_certified r b answer started others old mid new covers now later joins puts starts = by started others refl refl
  where
    same : new ≡ record old { cache = new.cache; watches = new.watches }
    same = starts.same ∙ ap (λ (h : Held). record h { cache = new.cache; watches = new.watches }) puts.same

    still_open : AreStillOpen none_goes old.cache.syncs new.cache.syncs
    still_open = AreStillOpen-then none_goes none_goes none_goes (λ x stays. refl) (λ x stays. refl) old.cache.syncs mid.cache.syncs new.cache.syncs puts.still_open starts.still_open

    section : Cached → Bool
    section = is_of_archive r.epoch (block_section (is_verified_in old r b))

    by : (s o : Started) → started ≡ s → others ≡ o → KeepsFor r.epoch (notarized_where (is_verified_in old r b) r b) (certified_covers r.epoch (is_verified_in old r b)) answer (ticket_for (joined_of s o) new) old (opened_for later (joined_of s o) answer new)
    by Ready o is is_o = record {
      below = λ low. (refl, starts.kept ∙ (puts.below low).1, still_open);
      done = λ loaded from. absurd (subst (GivesTicket now r.epoch section mid.cache.kept.held) is (puts.done loaded from).1);
      loaded = starts.loaded ∙ puts.loaded;
      same = same;
    }
    by (Ticket t) o is is_o = opened o is_o
      where
        -- what a ticket that covers both makes of it
        taken : (u : CacheTicket) → (old.cache.loaded ≡ true → old.lowest ≤ r.epoch → (x : Cached) → Contains new.cache.kept.held x → certified_covers r.epoch (is_verified_in old r b) x ≡ true → Contains (later u) x) → KeepsFor r.epoch (notarized_where (is_verified_in old r b) r b) (certified_covers r.epoch (is_verified_in old r b)) answer (Some new.writes.next_sync) old (with_cache_sync (later u) answer new)
        taken u covered = record {
          below = λ low. absurd (let none : Ticket t ≡ Ready = sym is ∙ (puts.below low).0 in cc);
          done = λ loaded from. (
            ap (λ h. Some h.writes.next_sync) same,
            subst (PutsAll (notarized_where (is_verified_in old r b) r b) old.cache.kept) (sym starts.kept) (puts.done loaded from).0,
            record {
              still = new.cache.syncs;
              still_open = still_open;
              entries = later u;
              covers = covered loaded from;
              are = ap (λ k. new.cache.syncs ++ record { ticket = k; entries = later u; answer = answer } ∷ []) (ap (λ h. h.writes.next_sync) same);
            },
          );
          loaded = starts.loaded ∙ puts.loaded;
          same = ap (λ (h : Held). record h { cache = (with_cache_sync (later u) answer new).cache; writes = with_ticket h.writes }) same;
        }

        gives : old.cache.loaded ≡ true → old.lowest ≤ r.epoch → GivesTicket now r.epoch section mid.cache.kept.held (Ticket t)
        gives loaded from = subst (GivesTicket now r.epoch section mid.cache.kept.held) is (puts.done loaded from).1

        -- the block's archive is covered, and still is once the other sync is started
        of_block : old.cache.loaded ≡ true → old.lowest ≤ r.epoch → (x : Cached) → Contains new.cache.kept.held x → section x ≡ true → Contains (later t) x
        of_block loaded from x has passes = starts.tickets t x (subst (λ xs. Contains xs x) (sym (gives loaded from).2) (filter_passed section mid.cache.kept.held x (subst (λ k. Contains k.held x) starts.kept has) passes)) refl

        opened : (o : Started) → others ≡ o → KeepsFor r.epoch (notarized_where (is_verified_in old r b) r b) (certified_covers r.epoch (is_verified_in old r b)) answer (ticket_for (joined_of (Ticket t) o) new) old (opened_for later (joined_of (Ticket t) o) answer new)
        opened Ready is_o = taken t (λ loaded from x has covered. elim (of_archive r.epoch (is_verified_in old r b) x covered) [
          | inl notarization ↦ absurd (let none : false ≡ true = sym (subst (StartsSync later r.epoch (is_of_archive r.epoch Notarizations) mid.cache.kept.held) is_o starts.starts x (subst (λ k. Contains k.held x) starts.kept has)) ∙ notarization in cc)
          | inr block ↦ of_block loaded from x has block
        ])
        opened (Ticket u) is_o = taken (record { epoch = t.epoch; first = t.first; second = Some u.first }) (λ loaded from x has covered.
            let others_give : (u.epoch ≡ r.epoch) × (u.second ≡ None) × (later u ≡ filter (is_of_archive r.epoch Notarizations) mid.cache.kept.held) = subst (StartsSync later r.epoch (is_of_archive r.epoch Notarizations) mid.cache.kept.held) is_o starts.starts in
            let (of_epoch, alone, first_covers) = gives loaded from in
            let first_is : later t ≡ later (record { epoch = t.epoch; first = t.first; second = None }) = ap (λ s. later (record { epoch = t.epoch; first = t.first; second = s })) alone in
            let second_is : later u ≡ later (record { epoch = t.epoch; first = u.first; second = None }) = ap (λ s. later (record { epoch = u.epoch; first = u.first; second = s })) others_give.1 ∙ ap (λ k. later (record { epoch = k; first = u.first; second = None })) (others_give.0 ∙ sym of_epoch) in
            subst (λ xs. Contains xs x) (sym (joins t.epoch t.first u.first)) (elim (of_archive r.epoch (is_verified_in old r b) x covered) [
              | inl notarization ↦ Contains-append_right _ _ x (subst (λ xs. Contains xs x) second_is (subst (λ xs. Contains xs x) (sym others_give.2) (filter_passed (is_of_archive r.epoch Notarizations) mid.cache.kept.held x (subst (λ k. Contains k.held x) starts.kept has) notarization)))
              | inr block ↦ Contains-append_left _ _ x (subst (λ xs. Contains xs x) first_is (of_block loaded from x has block))
            ]))

-- a sync that couldn't be taken in is one of an epoch that isn't below the lowest
pub untaken_limit : (epoch : ℕ) (started : Started) (old mid : Held) (fault : Fault) → (epoch < old.lowest → started ≡ Ready) → mid.writes ≡ old.writes → IsUntaken started mid fault → IsKeepFault epoch old fault
untaken_limit epoch started old mid fault ready same (inl memory) = inl (subst IsUsual (sym memory) tt)
untaken_limit epoch started old mid fault ready same (inr (limit, last, some)) = inr (
  limit,
  sym (ap (λ w. w.next_sync) same) ∙ last,
  elim (cases_lt epoch old.lowest) [
    | inl low ↦ absurd (some (ready low))
    | inr high ↦ high
  ],
)

-- the syncs of two archives as one are none where that of the block is
pub joined_ready : (started others : Started) → started ≡ Ready → joined_of started others ≡ Ready
joined_ready Ready others is = refl
joined_ready (Ticket t) others is = absurd cc

-- what a look for the digest of a block tells
pub verified_found : (r : Round) (b : Block) (h : Held) (digest : List ℕ) (found is : Bool) → digest ≡ b.digest → found ≡ list_any (λ x. is_verified_at r x && has_digest digest (cached_block x)) h.cache.kept.held → found ≡ is → is_verified_in h r b ≡ is
verified_found r b h digest found is own found_is is_so = sym (verified-is r b h.cache.kept.held) ∙ subst (λ d. list_any (λ x. is_verified_at r x && has_digest d (cached_block x)) h.cache.kept.held ≡ is) own (sym found_is ∙ is_so)

-- nothing is owed of a block that was verified where this one wasn't
pub unverified_owes : {T E : Type 0} (result : Result T E) (P : E → Type 0) (v : Bool) → v ≡ false → IfErr result (λ e. v ≡ true → P e)
unverified_owes (Ok x) P v is = tt
unverified_owes (Err e) P v is = λ was. absurd (let both : false ≡ true = sym is ∙ was in cc)

-- what is said of what a call took in
pub taken_in : {E : Type 0} (P : Option ℕ → Held → Type 0) (result : Result (Option ℕ) E) (ticket : Option ℕ) (opened new : Held) → OnOk result (new ≡ opened) → IfOk result (λ t. t ≡ ticket) → P ticket opened → IfOk result (λ t. P t new)
taken_in P (Ok t) ticket opened new same is said = subst (λ o. P o new) (sym is) (subst (P ticket) (sym same) said)
taken_in P (Err e) ticket opened new same is said = tt

-- A CERTIFIED BLOCK

-- an entry that passes a test that one passes
any_found : (test : Cached → Bool) (xs : List Cached) → list_any test xs ≡ true → (x : Cached) × Contains xs x × (test x ≡ true)
any_found test [] any = absurd cc
any_found test (x ∷ xs) any = by (test x) refl any (any_found test xs)
  where
    by : (c : Bool) → test x ≡ c → (c || list_any test xs) ≡ true → (list_any test xs ≡ true → (y : Cached) × Contains xs y × (test y ≡ true)) → (y : Cached) × Contains (x ∷ xs) y × (test y ≡ true)
    by true is some rest = (x, contains_here x xs, is)
    by false is some rest = let (y, has, passes) = rest some in (y, contains_more x xs y has, passes)

filters_alike : (p q : Cached → Bool) → ((x : Cached) → p x ≡ q x) → (xs : List Cached) → filter p xs ≡ filter q xs
filters_alike p q alike [] = refl
filters_alike p q alike (x ∷ xs) = ap (λ c. cond c (x ∷ filter p xs) (filter p xs)) (alike x) ∙ ap (λ ys. cond (q x) (x ∷ ys) ys) (filters_alike p q alike xs)

verified_section : (r : Round) (b : Block) (x : Cached) → verified_at r b x ≡ true → is_of_archive r.epoch Verified x ≡ true
verified_section r b (verified_entry s c) is = ap (λ d. d && true) (eq-eqb s.epoch r.epoch (place_epoch (verified_entry r b) (verified_entry s c) refl is))
verified_section r b (finalization_entry f) is = absurd cc
verified_section r b (notarized_entry s c) is = absurd cc
verified_section r b (certified_entry k c) is = absurd cc
verified_section r b (notarization_entry n) is = absurd cc

module _ (r : Round) (b : Block) (old read new : Held) (covers now : CacheTicket → List Cached) (read_is : read ≡ record old { watches = read.watches }) where
  -- one that was verified stays there, and its archive's sync was started
  pub puts_verified : (started : Started) → AreCached old → is_verified_in old r b ≡ true → StartsCacheSync r.epoch Verified started read new covers now → PutsCertified r b started old new covers now
  puts_verified started cached verified starts = record {
    below = λ low. absurd (let over = cached.nested.above there.0 (cached.nested.held_may there.0 there.1) in let at = place_epoch (verified_entry r b) there.0 refl there.2 in omega (arith, low, over, at));
    done = λ loaded from. (
      subst (λ c. PutsAll (notarized_where c r b) old.cache.kept new.cache.kept) (sym verified) kept_is,
      subst (λ c. GivesTicket now r.epoch (is_of_archive r.epoch (block_section c)) new.cache.kept.held started) (sym verified) (gives started starts.starts),
    );
    loaded = starts.loaded ∙ ap (λ h. h.cache.loaded) read_is;
    still_open = subst (λ h. AreStillOpen none_goes h.cache.syncs new.cache.syncs) read_is starts.still_open;
    tickets = starts.tickets;
    same = starts.same ∙ ap (λ (h : Held). record h { cache = new.cache; watches = new.watches }) read_is;
  }
    where
      there : (x : Cached) × Contains old.cache.kept.held x × (verified_at r b x ≡ true)
      there = any_found (verified_at r b) old.cache.kept.held verified

      kept_is : new.cache.kept ≡ old.cache.kept
      kept_is = starts.kept ∙ ap (λ h. h.cache.kept) read_is

      gives : (s : Started) → StartsSync now r.epoch (is_of_archive r.epoch Verified) read.cache.kept.held s → GivesTicket now r.epoch (is_of_archive r.epoch Verified) new.cache.kept.held s
      gives (Ticket t) is = (is.0, is.1, is.2 ∙ ap (λ k. filter (is_of_archive r.epoch Verified) k.held) (sym starts.kept))
      gives Ready none = absurd (let passes = verified_section r b there.0 there.2 in let fails = none there.0 (subst (λ h. Contains h.cache.kept.held there.0) (sym read_is) there.1) in let both : false ≡ true = sym fails ∙ passes in cc)

  -- any other was put as notarized
  pub puts_notarized : (started : Started) → is_verified_in old r b ≡ false → CachesEntry (notarized_entry r b) started read new covers now → PutsCertified r b started old new covers now
  puts_notarized started unverified caches = record {
    below = λ low. let (ready, same) = caches.puts.ready (subst (λ h. r.epoch < h.lowest) (sym read_is) low) in (ready, same ∙ ap (λ h. h.cache.kept) read_is);
    done = λ loaded from. let (puts, gives) = caches.puts.done (ap (λ h. h.cache.loaded) read_is ∙ loaded) (subst (λ h. h.lowest ≤ r.epoch) (sym read_is) from) in (
      subst (λ c. PutsAll (notarized_where c r b) old.cache.kept new.cache.kept) (sym unverified) (new.cache.kept, subst (λ h. PutsEntry (notarized_entry r b) h.cache.kept new.cache.kept) read_is puts, refl),
      subst (λ c. GivesTicket now r.epoch (is_of_archive r.epoch (block_section c)) new.cache.kept.held started) (sym unverified) (of_section started gives),
    );
    loaded = caches.loaded ∙ ap (λ h. h.cache.loaded) read_is;
    still_open = subst (λ h. AreStillOpen none_goes h.cache.syncs new.cache.syncs) read_is caches.still_open;
    tickets = caches.tickets;
    same = caches.same ∙ ap (λ (h : Held). record h { cache = new.cache; watches = new.watches }) read_is;
  }
    where
      of_section : (s : Started) → GivesTicket now r.epoch (same_archive (notarized_entry r b)) new.cache.kept.held s → GivesTicket now r.epoch (is_of_archive r.epoch Notarized) new.cache.kept.held s
      of_section (Ticket t) is = (is.0, is.1, is.2 ∙ filters_alike (same_archive (notarized_entry r b)) (is_of_archive r.epoch Notarized) (λ x. sym (notarized_section r b x)) new.cache.kept.held)
      of_section Ready is = absurd is

-- A NOTARIZED BLOCK

-- the same where a look for it came before, which tells whether it was verified
pub kept_where : (is : Bool) (r : Round) (b : Block) (old read new : Held) → is_verified_in old r b ≡ is → read ≡ record old { watches = read.watches } → KeepsNotarizedWhere is r b read new → KeepsNotarizedWhere (is_verified_in old r b) r b old new
kept_where is r b old read new tells same keeps = subst (λ c. KeepsNotarizedWhere c r b old new) (sym tells) (KeepsNotarizedWhere-unread is r b old new read.watches (subst (λ h. KeepsNotarizedWhere is r b h new) same keeps))
