-- A certified block: whether it was verified at its round is the same before and behind the put of its event.
use Rattle.std.proofs.Common.{◌≡◌, ◌&&◌, ◌||◌, ℕ, List, [], ◌∷◌, Bool, true, false, cond, filter, bytes_eq, refl, sym, ap, ◌∙◌, Contains, ap₂, Option, None, Some}
use Rattle.std.proofs.lemmas.Bool.{false_from_ne_true}
use Rattle.std.proofs.lemmas.Slice.Eq.{bytes_eq-Decides}
use Rattle.std.specs.List.{list_any}
use Rattle.mar_types.specs.Round.{Round}
use Rattle.mar_cert.specs.Block.{Block}
use Rattle.mar_cert.specs.Finalization.{Notarization}
use Rattle.mar_store.specs.Kept.{Kept}
use Rattle.mar_model.specs.Cache.{is_notarization_of, notarized_where, verified_at}
use Rattle.mar_model.specs.Cached.{Cached, cached_block, notarization_entry, notarized_entry, verified_entry}
use Rattle.mar_model.specs.Entries.{has_commitment, has_digest, is_verified_at}
use Rattle.mar_model.specs.Event.{message_told}
use Rattle.mar_model.specs.Held.{Held}
use Rattle.mar_model.specs.Messages.{report_notarization}
use Rattle.mar_model.specs.Moves.{KeepsFor, PutsAll, found_at_hand}
use Rattle.mar_model.specs.Plans.{found_by, found_of}
use Rattle.mar_model.proofs.CacheOver.{found_unmoved}
use Rattle.mar_model.proofs.CachedBlocks.{eqb-sym}
use Rattle.mar_model.proofs.EntryLists.{contains_none, one_of, passes_alike}
use Rattle.mar_model.proofs.KeptEach.{KeepsEach-for, KeepsEach-others, PutsAll-others}

bytes_eq-sym : (xs ys : List ℕ) → bytes_eq xs ys ≡ bytes_eq ys xs
bytes_eq-sym xs ys = by (bytes_eq xs ys) refl
  where
    by : (c : Bool) → bytes_eq xs ys ≡ c → c ≡ bytes_eq ys xs
    by true is = sym ((bytes_eq-Decides ys xs).1 (sym ((bytes_eq-Decides xs ys).0 is)))
    by false is = sym (false_from_ne_true (bytes_eq ys xs) (λ on. let both : false ≡ true = sym is ∙ (bytes_eq-Decides xs ys).1 (sym ((bytes_eq-Decides ys xs).0 on)) in cc))

-- a look-up by round and digest is what the definition looks for
pub verified-is : (r : Round) (b : Block) (held : List Cached) → list_any (λ x. is_verified_at r x && has_digest b.digest (cached_block x)) held ≡ list_any (verified_at r b) held
verified-is r b held = passes_alike (λ x. is_verified_at r x && has_digest b.digest (cached_block x)) (verified_at r b) held (λ x has. at x)
  where
    at : (x : Cached) → (is_verified_at r x && has_digest b.digest (cached_block x)) ≡ verified_at r b x
    at (verified_entry s c) = ap₂ (λ p q. p && q) (ap₂ (λ p q. p && q) (eqb-sym s.epoch r.epoch) (eqb-sym s.view r.view)) (bytes_eq-sym c.digest b.digest)
    at _ = refl

-- a test looks at what passes alone
any_filtered : {T : Type 0} (test : T → Bool) (xs : List T) → list_any test xs ≡ list_any test (filter test xs)
any_filtered test [] = refl
any_filtered test (x ∷ xs) = by (test x) refl (any_filtered test xs)
  where
    by : (c : Bool) → test x ≡ c → list_any test xs ≡ list_any test (filter test xs) → (c || list_any test xs) ≡ list_any test (cond c (x ∷ filter test xs) (filter test xs))
    by true is rest = sym (ap (λ d. d || list_any test (filter test xs)) is)
    by false is rest = rest

-- what was verified is as it was where nothing was put there
pub verified-unmoved : (r : Round) (b : Block) (old new : List Cached) → filter (verified_at r b) new ≡ filter (verified_at r b) old → list_any (verified_at r b) new ≡ list_any (verified_at r b) old
verified-unmoved r b old new same = any_filtered (verified_at r b) new ∙ (ap (list_any (verified_at r b)) same ∙ sym (any_filtered (verified_at r b) old))

-- a notarized block is no verified one
pub verified-stays : (r : Round) (b : Block) (c : Bool) (old new : Kept Cached) → PutsAll (notarized_where c r b) old new → list_any (verified_at r b) new.held ≡ list_any (verified_at r b) old.held
verified-stays r b c old new puts = verified-unmoved r b old.held new.held (PutsAll-others (verified_at r b) (notarized_where c r b) old new (other c) puts)
  where
    other : (d : Bool) (x : Cached) → Contains (notarized_where d r b) x → verified_at r b x ≡ false
    other true x has = contains_none x has
    other false x has = ap (verified_at r b) (one_of (notarized_entry r b) x has)

-- What a notarization finds is the same before it is kept, where what a crash left of the cache was taken up.

module _ (inner : List ℕ → List ℕ) (buffer : List Block) (f : Notarization) (old mid : Held) (ticket : Option ℕ) (keeps : KeepsFor f.round.epoch (notarization_entry f ∷ []) (is_notarization_of f.round.epoch) None ticket old mid) (loaded : old.cache.loaded ≡ true) where
  unmoved : (passes : Cached → Bool) → passes (notarization_entry f) ≡ false → filter passes mid.cache.kept.held ≡ filter passes old.cache.kept.held
  unmoved passes fails = KeepsEach-others f.round.epoch (notarization_entry f ∷ []) (is_notarization_of f.round.epoch ∷ []) None old mid (KeepsEach-for f.round.epoch (notarization_entry f ∷ []) (is_notarization_of f.round.epoch) None ticket old mid keeps) loaded passes (λ x has. ap passes (one_of (notarization_entry f) x has) ∙ fails)

  pub notarized_finds : found_of mid f.round (found_at_hand inner buffer mid.cache.kept.held mid.blocks.held f.payload) ≡ found_by inner buffer old (message_told None (report_notarization f))
  notarized_finds = by (found_at_hand inner buffer mid.cache.kept.held mid.blocks.held f.payload) ∙ ap (found_of old f.round) same
    where
      same : found_at_hand inner buffer mid.cache.kept.held mid.blocks.held f.payload ≡ found_at_hand inner buffer old.cache.kept.held old.blocks.held f.payload
      same = ap (λ h. found_at_hand inner buffer mid.cache.kept.held h.blocks.held f.payload) keeps.same
          ∙ found_unmoved inner buffer old.blocks.held f.payload old.cache.kept.held mid.cache.kept.held (unmoved (λ x. has_commitment f.payload (cached_block x)) refl)

      by : (o : Option Block) → found_of mid f.round o ≡ found_of old f.round o
      by None = refl
      by (Some b) = ap (λ v. record { block = Some b; is_verified = v }) (verified-unmoved f.round b old.cache.kept.held mid.cache.kept.held (unmoved (verified_at f.round b) refl))
