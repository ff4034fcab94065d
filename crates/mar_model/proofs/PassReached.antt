-- What an event has reached that ends with a pass of repair.
use Rattle.std.proofs.Common.{◌≡◌, ◌⊎◌, inl, inr, ⊎_elim, ◌∷◌, [], List, ◌++◌, map, drop, max, count_by, option_to_list, is_some, IfSome, IsSome, IsTrue, Contains, Option, None, Some, Bool, true, false, cond, if◌then◌else◌, not, ◌&&◌, ◌||◌, ◌==◌, nat_lt, zero, suc, ℕ, ◌+◌, ◌-◌, ◌<◌, ◌≤◌, arith, refl, sym, ◌∙◌, ap, subst, append-nil, append_assoc}
use Rattle.std.specs.List.{AllByRecursion, filter_map, list_any}
use Rattle.std.proofs.lemmas.Bool.{eqb-true, or_left, or_right}
use Rattle.std.proofs.lemmas.Bool.Decides.{nat_tests}
use Rattle.std.proofs.lemmas.List.Elements.{Contains-append_cases, Contains-append_left, Contains-append_right}
use Rattle.std.proofs.lemmas.List.Sums.{sum_by-cons}
use Rattle.std.proofs.lemmas.Option.{same_Some}
use Rattle.mar_cert.specs.Block.{Block}
use Rattle.mar_cert.specs.Finalization.{Finalization}
use Rattle.mar_gate.specs.Writing.{Writing}
use Rattle.mar_key.specs.Keys.{Call, block_key, fetch, finalized_key, notarized_key, retain}
use Rattle.mar_key.specs.Processed.{height_of}
use Rattle.mar_store.specs.Changes.{KeepsValues, left_of}
use Rattle.mar_store.specs.Kept.{At, has_height, value_at}
use Rattle.mar_store.proofs.Lookups.{AllByRecursion-append, Contains-from_value, has_height-from_contains, has_height-from_value, has_height-push_cases, value-from_has_height, value_at-append, value_at-one, missing-from_has_height, AllByRecursion-contains, AllByRecursion-from_contains, value_at-append_found}
use Rattle.mar_model.specs.Cached.{Cached, cached_block, cached_finalization}
use Rattle.mar_model.specs.Cache.{entries_with_puts}
use Rattle.mar_model.specs.Chain.{Chain, IsBlockAt, Finalizes}
use Rattle.mar_model.specs.Config.{Config}
use Rattle.mar_model.specs.Event.{Event, blocks_from, certs_from, finalization_for, no_floor, own_writes, storing_of, told_finalization, Storing, brought_block}
use Rattle.mar_model.specs.Held.{Remembered, Seen, LeavesCache, Grew}
use Rattle.mar_model.specs.Node.{Node, at_hand}
use Rattle.mar_model.specs.Promise.{Waiting, node_of}
use Rattle.mar_model.specs.Repair.{with_fill, with_fills}
use Rattle.mar_model.specs.Requests.{AsksParentOf, IsRepairAskOf, IsRepaired, is_pass, may_repair, repairs_twice}
use Rattle.mar_model.specs.Scene.{Scene}
use Rattle.mar_model.specs.Step.{IsBlockFrom, IsCertFrom, IsStored, IsStoredLate, Report, is_repaired, own_heights, CertificatesFrom, EntersAt, KeepsFrom, RepairsFromHand, Writes, finished_position, repairs_from}
use Rattle.mar_model.specs.Stored.{at_own_height, is_held}
use Rattle.mar_model.proofs.CachePrunes.{not_first}
use Rattle.mar_model.proofs.Filtered.{all_found_from, all_found_of}
use Rattle.mar_model.proofs.FillsOfChain.{AreNew, IsFill}
use Rattle.mar_model.proofs.Growing.{Grew-refl, Grown-blocks, Grown-certs, Grown-then, WithinWritten-refl}
use Rattle.mar_model.proofs.PassOfChain.{Passed}
use Rattle.mar_model.proofs.PassRan.{RowRan, written_row}
use Rattle.mar_model.proofs.Reaching.{Reaches, ReachesBy, IfSome-more}
use Rattle.mar_model.proofs.RepairWalk.{with_fill-has, with_fills-keeps}
use Rattle.mar_model.proofs.SyncPromise.{at}
use Rattle.mar_model.proofs.Tips.{both_chain, both_rise, both_tips}
use Rattle.std.specs.Option.{option_or}
use Rattle.mar_model.proofs.CacheOver.{AdvancesCache-beside, MovesCache}
use Rattle.mar_model.specs.Acts.{AreLawful}

-- THE LAW BY ANOTHER LOOK-UP

module _ (most : ℕ) (find find' : List ℕ → Option Block) (alike : (c : List ℕ) → find c ≡ find' c) (processed : ℕ) (held : List (At Block)) (certs : List (At Finalization)) where
  parent_alike : (asks : List Call) (b : Block) → AsksParentOf find asks b → AsksParentOf find' asks b
  parent_alike asks b (inl (none, has)) = inl (sym (alike b.parent_commitment) ∙ none, has)
  parent_alike asks b (inr (p, found, other)) = inr (p, sym (alike b.parent_commitment) ∙ found, other)

  ask_alike : (c : Call) → IsRepairAskOf most find held certs (processed + 1) c → IsRepairAskOf most find' held certs (processed + 1) c
  ask_alike (fetch (finalized_key h) annotation targets) is = is
  ask_alike (fetch (block_key k) annotation targets) (none, h, at_h, (unfound, why)) = (none, h, at_h, (sym (alike k) ∙ unfound, why))
  ask_alike (fetch (notarized_key r) annotation targets) is = absurd is
  ask_alike (retain keep) is = absurd is

  all_alike : (asks : List Call) → AllByRecursion (IsRepairAskOf most find held certs (processed + 1)) asks → AllByRecursion (IsRepairAskOf most find' held certs (processed + 1)) asks
  all_alike [] all = tt
  all_alike (c ∷ asks) all = (ask_alike c all.0, all_alike asks all.1)

  pub IsRepaired-alike : (asks : List Call) → IsRepaired most find processed held certs asks → IsRepaired most find' processed held certs asks
  IsRepaired-alike asks law = record {
    heights = law.heights;
    at_most = law.at_most;
    only = all_alike asks law.only;
    parent = λ b upper. parent_alike asks b (law.parent b upper);
    newest_block = law.newest_block;
  }

-- HEIGHTS OF WHAT IS FILLED IN

abbrev any_height : List Block → ℕ → Bool
any_height bs h = list_any (λ k. k == h) (map (λ b. b.height) bs)

-- what is held then was held or is one of these
with_fills-cases : (held : List (At Block)) (bs : List Block) (h : ℕ) → IsTrue (has_height (with_fills held bs) h) → IsTrue (has_height held h) ⊎ IsTrue (any_height bs h)
with_fills-cases held [] h has = inl has
with_fills-cases held (b ∷ bs) h has = ⊎_elim (λ with_b. here with_b) (λ later. inr (or_right (b.height == h) (any_height bs h) later)) (with_fills-cases (with_fill held b) bs h has)
  where
    same_test : (i j : ℕ) → i ≡ j → (i == j) ≡ true
    same_test i j is = grind (arith, nat_tests)

    here : IsTrue (has_height (with_fill held b) h) → IsTrue (has_height held h) ⊎ IsTrue (any_height (b ∷ bs) h)
    here with_b = by (is_held held b) with_b
      where
        by : (c : Bool) → IsTrue (has_height (if c then held else held ++ at_own_height b ∷ []) h) → IsTrue (has_height held h) ⊎ IsTrue (any_height (b ∷ bs) h)
        by true there = inl there
        by false there = ⊎_elim (λ old. inl old) (λ is. inr (or_left (b.height == h) (any_height bs h) (same_test b.height h is))) (has_height-push_cases held b.height h b there)

-- and none of these was
new_unheld : (held : List (At Block)) (bs : List Block) (h : ℕ) → AreNew held bs → IsTrue (any_height bs h) → has_height held h ≡ false
new_unheld held [] h new any = absurd (let no : false ≡ true = any in cc)
new_unheld held (b ∷ bs) h new any = by (b.height == h) refl any (new_unheld (with_fill held b) bs h new.1)
  where
    before : has_height (with_fill held b) h ≡ false → has_height held h ≡ false
    before none = tested (has_height held h) refl
      where
        keeps : (c : Bool) → IsTrue (has_height held h) → IsTrue (has_height (if c then held else held ++ at_own_height b ∷ []) h)
        keeps true has = has
        keeps false has = let (v, is) = value-from_has_height held h has in has_height-from_contains (held ++ at_own_height b ∷ []) (record { height = h; value = v }) (Contains-append_left held (at_own_height b ∷ []) _ (Contains-from_value held h v is))

        tested : (c : Bool) → has_height held h ≡ c → c ≡ false
        tested true has = absurd (let no : false ≡ true = sym none ∙ keeps (is_held held b) has in cc)
        tested false has = refl

    by : (c : Bool) → (b.height == h) ≡ c → (c || any_height bs h) ≡ true → (IsTrue (any_height bs h) → has_height (with_fill held b) h ≡ false) → has_height held h ≡ false
    by true same any_there rest = subst (λ k. has_height held k ≡ false) (eqb-true b.height h same) (not_first (has_height held b.height) _ new.0)
    by false other any_there rest = before (rest any_there)

zero_of : (c : Bool) → c ≡ false → ◌≡◌ {A = ℕ} (cond c 1 0) 0
zero_of true is = absurd (let no : true ≡ false = is in cc)
zero_of false is = refl

one_of : (c : Bool) → c ≡ true → ◌≡◌ {A = ℕ} (cond c 1 0) 1
one_of true is = refl
one_of false is = absurd (let no : false ≡ true = is in cc)

none_counted : (h : ℕ) (xs : List ℕ) → list_any (λ k. k == h) xs ≡ false → count_by (λ k. k == h) xs ≡ 0
none_counted h [] none = refl
none_counted h (x ∷ xs) none = by (x == h) refl none (none_counted h xs)
  where
    by : (c : Bool) → (x == h) ≡ c → (c || list_any (λ k. k == h) xs) ≡ false → (list_any (λ k. k == h) xs ≡ false → count_by (λ k. k == h) xs ≡ 0) → count_by (λ k. k == h) (x ∷ xs) ≡ 0
    by true same any rest = absurd (let no : true ≡ false = any in cc)
    by false other any rest =
        let all : count_by (λ k. k == h) (x ∷ xs) ≡ cond (x == h) 1 0 + count_by (λ k. k == h) xs = sum_by-cons (λ k. cond (k == h) 1 0) x xs in
        let one : ◌≡◌ {A = ℕ} (cond (x == h) 1 0) 0 = zero_of (x == h) other in
        let two : count_by (λ k. k == h) xs ≡ 0 = rest any in
        omega arith

-- so each height stands once among them
once_each : (held : List (At Block)) (bs : List Block) (h : ℕ) → AreNew held bs → count_by (λ k. k == h) (map (λ b. b.height) bs) ≤ 1
once_each held [] h new = omega arith
once_each held (b ∷ bs) h new = by (b.height == h) refl (once_each (with_fill held b) bs h new.1)
  where
    hs : List ℕ
    hs = map (λ c. c.height) bs

    more : count_by (λ k. k == h) (b.height ∷ hs) ≡ cond (b.height == h) 1 0 + count_by (λ k. k == h) hs
    more = sum_by-cons (λ k. cond (k == h) 1 0) b.height hs

    none_more : (xs : List ℕ) → list_any (λ k. k == h) xs ≡ false → count_by (λ k. k == h) xs ≡ 0
    none_more xs none = none_counted h xs none

    by : (c : Bool) → (b.height == h) ≡ c → count_by (λ k. k == h) hs ≤ 1 → count_by (λ k. k == h) (b.height ∷ hs) ≤ 1
    by true same rest =
        let zero_more : count_by (λ k. k == h) hs ≡ 0 = none_more hs (absent (any_height bs h) refl) in
        let all : count_by (λ k. k == h) (b.height ∷ hs) ≡ cond (b.height == h) 1 0 + count_by (λ k. k == h) hs = more in
        let one : ◌≡◌ {A = ℕ} (cond (b.height == h) 1 0) 1 = one_of (b.height == h) same in
        omega arith
      where
        absent : (p : Bool) → any_height bs h ≡ p → p ≡ false
        absent true any = absurd (let unheld : has_height (with_fill held b) h ≡ false = new_unheld (with_fill held b) bs h new.1 any in
            let there : has_height (with_fill held b) h ≡ true = subst (λ k. has_height (with_fill held b) k ≡ true) (eqb-true b.height h same) (with_fill-has held b new.0) in
            let no : false ≡ true = sym unheld ∙ there in cc)
        absent false any = refl
    by false other rest =
        let all : count_by (λ k. k == h) (b.height ∷ hs) ≡ cond (b.height == h) 1 0 + count_by (λ k. k == h) hs = more in
        let none : ◌≡◌ {A = ℕ} (cond (b.height == h) 1 0) 0 = zero_of (b.height == h) other in
        omega arith

by_test : (c : Block) (cs : List Block) (j : ℕ) (p : Bool) → (c.height == j) ≡ p → (p || any_height cs j) ≡ true → (IsTrue (any_height cs j) → Contains (map (λ b. b.height) cs) j) → Contains (c.height ∷ map (λ b. b.height) cs) j
by_test c cs j true same any rest = (zero, omega arith, grind (arith, nat_tests))
by_test c cs j false other any rest = let there = rest any in (suc there.0, (let low = there.1 in omega arith), there.2)

-- a height that is held then is this one, where it was held, or that of a fill
pub entered_heights : (xs : List (At Block)) (bs : List Block) (h k : ℕ) → IsTrue (has_height (with_fills xs bs) k) → (IsTrue (has_height xs k) → h ≡ k) → Contains (h ∷ map (λ b. b.height) bs) k
entered_heights xs bs h k has old = ⊎_elim (λ before. (zero, omega arith, old before)) (λ any. let there = named bs k any in (suc there.0, (let low = there.1 in omega arith), there.2)) (with_fills-cases xs bs k has)
  where
    named : (cs : List Block) (j : ℕ) → IsTrue (any_height cs j) → Contains (map (λ b. b.height) cs) j
    named [] j any = absurd (let bad : false ≡ true = any in cc)
    named (c ∷ cs) j any = by_test c cs j (c.height == j) refl any (λ rest. named cs j rest)

-- WHAT IS REACHED

module _ {P E : Type 0} (life : Remembered P E) (config : Config) (chain : Chain) (inner : List ℕ → List ℕ) (a : Seen P E) (e : Event) (buffer : List Block) (waiting : Waiting) (tips : List Report) (u t : Scene)
    (reach : Reaches config chain a e buffer waiting tips (at life u)) (pass : Passed chain inner buffer u t) where
  abbrev n : Node
  n = node_of a buffer waiting

  abbrev n' : Node
  n' = node_of (at life t) buffer waiting

  abbrev own : List ℕ
  own = own_writes n (storing_of n e) no_floor

  abbrev put : List ℕ
  put = map (λ b. b.height) pass.blocks

  -- What is known of the event's first part, and of what the pass stored.
  pub record EndsInPass : Type 0 where
    pub passes : (k : Node) → is_pass n e no_floor k ≡ true
    pub once : repairs_twice e no_floor ≡ false
    pub may : IsTrue (may_repair e)
    pub blocks_from_none : blocks_from n e no_floor ≡ 0
    pub certs_from_none : certs_from n e no_floor ≡ 0
    pub sure_blocks : KeepsValues a.held.blocks.sure a.held.blocks.held
    pub sure_certs : KeepsValues a.held.certs.sure a.held.certs.held
    pub lawful : AreLawful u.held
    pub cached_near : (b : Block) → Contains (filter_map cached_block u.held.cache.kept.held) b → Contains (filter_map cached_block a.held.cache.kept.held) b
    pub finals_near : (f : Finalization) → Contains (filter_map cached_finalization u.held.cache.kept.held) f → Contains (option_to_list (told_finalization n e) ++ filter_map cached_finalization a.held.cache.kept.held) f
    pub own_held : (h : ℕ) → IsTrue (list_any (λ k. k == h) own) → IsTrue (has_height u.held.blocks.held h)
    pub stored_cert : IfSome (storing_of n e) (λ s. IsTrue (has_height u.held.certs.held s.height))
    pub covered : u.held.writes.covered ≡ a.held.writes.covered
    pub uncovered : u.held.writes.uncovered ≡ a.held.writes.uncovered ++ own
    pub finalized : (b : Block) → Contains pass.blocks b → IsSome (finalization_for n' b) → IsTrue (has_height t.held.certs.held b.height)
    pub law : IsRepaired config.max_repair (λ c. at_hand n' c) (height_of t.held.processed) t.held.blocks.held t.held.certs.held pass.asks

  module _ (is : EndsInPass) where
    abbrev ran : RowRan inner chain pass.blocks pass.certs pass.tells pass.asks u t
    ran = pass.ran

    processed_is : t.held.processed ≡ u.held.processed
    processed_is = ap (λ h. h.processed) ran.same

    kept_has : (h : ℕ) → IsTrue (has_height u.held.blocks.held h) → IsTrue (has_height t.held.blocks.held h)
    kept_has h has = let (v, at_h) = value-from_has_height u.held.blocks.held h has in has_height-from_value t.held.blocks.held h v (ran.kept_blocks h v at_h)

    kept_cert : (h : ℕ) → IsTrue (has_height u.held.certs.held h) → IsTrue (has_height t.held.certs.held h)
    kept_cert h has = let (v, at_h) = value-from_has_height u.held.certs.held h has in has_height-from_value t.held.certs.held h v (ran.kept_certs h v at_h)

    blocks_kept : KeepsFrom (blocks_from n e no_floor) a.held.blocks t.held.blocks
    blocks_kept = record {
      held = λ h v low at_h. ran.kept_blocks h v (reach.comes.blocks.keeps.held h v low at_h);
      sure = λ h v at_h has. subst (λ xs. value_at xs h ≡ Some v) (sym ran.sure_blocks) (reach.comes.blocks.keeps.sure h v at_h (has_height-from_value u.held.blocks.held h v (reach.comes.blocks.keeps.held h v (low_bound h) (is.sure_blocks h v at_h))));
    }
      where
        low_bound : (h : ℕ) → blocks_from n e no_floor ≤ h
        low_bound h = let none : blocks_from n e no_floor ≡ 0 = is.blocks_from_none in omega arith

    certs_kept : KeepsFrom (certs_from n e no_floor) a.held.certs t.held.certs
    certs_kept = record {
      held = λ h v low at_h. ran.kept_certs h v (reach.comes.certs.keeps.held h v low at_h);
      sure = λ h v at_h has. subst (λ xs. value_at xs h ≡ Some v) (sym ran.sure_certs) (reach.comes.certs.keeps.sure h v at_h (has_height-from_value u.held.certs.held h v (reach.comes.certs.keeps.held h v (low_bound h) (is.sure_certs h v at_h))));
    }
      where
        low_bound : (h : ℕ) → certs_from n e no_floor ≤ h
        low_bound h = let none : certs_from n e no_floor ≡ 0 = is.certs_from_none in omega arith

    of_fills : (bs : List Block) → AllByRecursion (IsFill chain (buffer ++ filter_map cached_block u.held.cache.kept.held)) bs → AllByRecursion (λ x. IsBlockAt chain x.height x.value) (map at_own_height bs)
    of_fills [] are = tt
    of_fills (b ∷ bs) are = (are.0.at, of_fills bs are.1)

    fill_near : (bs : List Block) → AllByRecursion (IsFill chain (buffer ++ filter_map cached_block u.held.cache.kept.held)) bs → (x : At Block) → Contains (map at_own_height bs) x → Contains (buffer ++ filter_map cached_block u.held.cache.kept.held) x.value
    fill_near [] are x (k, low, at_k) = absurd (omega arith)
    fill_near (b ∷ bs) are x (zero, low, at_k) = subst (λ (y : At Block). Contains (buffer ++ filter_map cached_block u.held.cache.kept.held) y.value) at_k are.0.from
    fill_near (b ∷ bs) are x (suc k, low, at_k) = fill_near bs are.1 x (k, omega arith, at_k)

    near : (b : Block) → Contains (buffer ++ filter_map cached_block u.held.cache.kept.held) b → Contains (buffer ++ filter_map cached_block a.held.cache.kept.held) b
    near b has = ⊎_elim (λ own_b. Contains-append_left buffer (filter_map cached_block a.held.cache.kept.held) b own_b) (λ far. Contains-append_right buffer (filter_map cached_block a.held.cache.kept.held) b (is.cached_near b far)) (Contains-append_cases buffer (filter_map cached_block u.held.cache.kept.held) b has)

    own_blocks : (x : At Block) → Contains (reach.comes.blocks.put ++ map at_own_height pass.blocks) x → IsBlockFrom n e x
    own_blocks x has = ⊎_elim (λ first. reach.comes.blocks.own x first) (λ fill. Contains-append_right (option_to_list (brought_block n e)) (buffer ++ filter_map cached_block a.held.cache.kept.held) x.value (near x.value (fill_near pass.blocks pass.fills x fill))) (Contains-append_cases reach.comes.blocks.put (map at_own_height pass.blocks) x has)

    cert_near : (x : At Finalization) → Contains pass.certs x → IsCertFrom n e x
    cert_near x has = is.finals_near x.value (pass.certs_cached x has)

    own_certs : (x : At Finalization) → Contains (reach.comes.certs.put ++ pass.certs) x → IsCertFrom n e x
    own_certs x has = ⊎_elim (λ first. reach.comes.certs.own x first) (λ fill. cert_near x fill) (Contains-append_cases reach.comes.certs.put pass.certs x has)

    certificates : CertificatesFrom n e n'
    certificates = record { entered = entered; own = λ s f storing told none. own_is s f storing told none }
      where
        entered : (h : ℕ) (f : Finalization) → value_at t.held.certs.held h ≡ Some f → (value_at a.held.certs.held h ≡ Some f) ⊎ IsCertFrom n e (record { height = h; value = f })
        entered h f at_h = by (value_at u.held.certs.held h) refl
          where
            by : (o : Option Finalization) → value_at u.held.certs.held h ≡ o → (value_at a.held.certs.held h ≡ Some f) ⊎ IsCertFrom n e (record { height = h; value = f })
            by (Some g) there = reach.comes.certificates.entered h f (there ∙ (sym (ran.kept_certs h g there) ∙ at_h))
            by None none = ⊎_elim (λ old. absurd (let has : has_height u.held.certs.held h ≡ true = has_height-from_contains u.held.certs.held (record { height = h; value = f }) old in let no : false ≡ true = sym (ap is_some none) ∙ has in cc))
                (λ new. inr (cert_near (record { height = h; value = f }) new)) (ran.certs_from (record { height = h; value = f }) (Contains-from_value t.held.certs.held h f at_h))

        own_is : (s : Storing) (f : Finalization) → storing_of n e ≡ Some s → told_finalization n e ≡ Some f → value_at a.held.certs.held s.height ≡ None → (value_at t.held.certs.held s.height ≡ None) ⊎ (value_at t.held.certs.held s.height ≡ Some f)
        own_is s f storing told none = ⊎_elim (λ lacks. absurd (let has : has_height u.held.certs.held s.height ≡ true = subst (λ o. IfSome o (λ q. IsTrue (has_height u.held.certs.held q.height))) storing is.stored_cert in let no : false ≡ true = sym (ap is_some lacks) ∙ has in cc))
            (λ there. inr (ran.kept_certs s.height f there)) (reach.comes.certificates.own s f storing told none)

    -- WRITES

    none_before : (h : ℕ) → is_repaired n (own ++ []) (node_of (at life u) buffer waiting) h ≡ false
    none_before h = sym (reach.comes.writes.by_repair h) ∙ ap (λ xs. list_any (λ k. k == h) xs) reach.no_repair

    by_repair : (h : ℕ) → list_any (λ k. k == h) put ≡ is_repaired n (own ++ []) n' h
    by_repair h = by (list_any (λ k. k == h) put) refl
      where
        all_true : (p q r s : Bool) → p ≡ true → q ≡ true → r ≡ false → s ≡ false → true ≡ (p && (q && (not r && not s)))
        all_true p q r s is_p is_q not_r not_s = sym (ap (λ c. c && (q && (not r && not s))) is_p ∙ (ap (λ c. c && (not r && not s)) is_q ∙ (ap (λ c. not c && not s) not_r ∙ ap not not_s)))

        lacked : has_height u.held.blocks.held h ≡ false → has_height a.held.blocks.held h ≡ false
        lacked none = tested (has_height a.held.blocks.held h) refl
          where
            tested : (c : Bool) → has_height a.held.blocks.held h ≡ c → c ≡ false
            tested false lacks = refl
            tested true has = absurd (let (v, at_h) = value-from_has_height a.held.blocks.held h has in
                let there : has_height u.held.blocks.held h ≡ true = has_height-from_value u.held.blocks.held h v (reach.comes.blocks.keeps.held h v (let zero_bound : blocks_from n e no_floor ≡ 0 = is.blocks_from_none in omega arith) at_h) in
                let no : false ≡ true = sym none ∙ there in cc)

        unowned : has_height u.held.blocks.held h ≡ false → list_any (λ k. k == h) (own ++ []) ≡ false
        unowned none = ap (λ xs. list_any (λ k. k == h) xs) (append-nil own) ∙ tested (list_any (λ k. k == h) own) refl
          where
            tested : (c : Bool) → list_any (λ k. k == h) own ≡ c → c ≡ false
            tested false lacks = refl
            tested true any = absurd (let no : false ≡ true = sym none ∙ is.own_held h any in cc)

        higher : (bs : List Block) → AllByRecursion (λ b. height_of u.held.processed + 1 ≤ b.height) bs → IsTrue (any_height bs h) → nat_lt (height_of u.held.processed) h ≡ true
        higher [] all any = absurd (let no : false ≡ true = any in cc)
        higher (b ∷ bs) all any = tested (b.height == h) refl any (higher bs all.1)
          where
            tested : (c : Bool) → (b.height == h) ≡ c → (c || any_height bs h) ≡ true → (IsTrue (any_height bs h) → nat_lt (height_of u.held.processed) h ≡ true) → nat_lt (height_of u.held.processed) h ≡ true
            tested true same there rest = let low : height_of u.held.processed + 1 ≤ b.height = all.0 in grind (arith, nat_tests)
            tested false other there rest = rest there

        has_fill : (bs : List Block) (xs : List (At Block)) → AreNew xs bs → IsTrue (any_height bs h) → IsTrue (has_height (with_fills xs bs) h)
        has_fill [] xs new any = absurd (let no : false ≡ true = any in cc)
        has_fill (b ∷ bs) xs new any = tested (b.height == h) refl any (has_fill bs (with_fill xs b) new.1)
          where
            tested : (c : Bool) → (b.height == h) ≡ c → (c || any_height bs h) ≡ true → (IsTrue (any_height bs h) → IsTrue (has_height (with_fills (with_fill xs b) bs) h)) → IsTrue (has_height (with_fills (with_fill xs b) bs) h)
            tested true same there rest = subst (λ k. IsTrue (has_height (with_fills (with_fill xs b) bs) k)) (eqb-true b.height h same) (with_fills-keeps (with_fill xs b) bs b.height (with_fill-has xs b new.0))
            tested false other there rest = rest there

        same_processed : (q : Bool) → (nat_lt (height_of t.held.processed) h && q) ≡ (nat_lt (height_of u.held.processed) h && q)
        same_processed q = ap (λ p. nat_lt (height_of p) h && q) processed_is

        by : (c : Bool) → list_any (λ k. k == h) put ≡ c → c ≡ is_repaired n (own ++ []) n' h
        by true any =
            let none = new_unheld u.held.blocks.held pass.blocks h pass.new any in
            all_true (nat_lt (height_of t.held.processed) h) (has_height t.held.blocks.held h) (has_height a.held.blocks.held h) (list_any (λ k. k == h) (own ++ []))
            (ap (λ p. nat_lt (height_of p) h) processed_is ∙ higher pass.blocks pass.above any) (subst (λ xs. IsTrue (has_height xs h)) (sym ran.blocks) (has_fill pass.blocks u.held.blocks.held pass.new any)) (lacked none) (unowned none)
        by false none = sym (tested (has_height t.held.blocks.held h) refl)
          where
            rest_of : Bool
            rest_of = not (has_height a.held.blocks.held h) && not (list_any (λ k. k == h) (own ++ []))

            never_and : (p : Bool) → (p && false) ≡ false
            never_and true = refl
            never_and false = refl

            tested : (c : Bool) → has_height t.held.blocks.held h ≡ c → (nat_lt (height_of t.held.processed) h && (c && rest_of)) ≡ false
            tested false lacks = never_and (nat_lt (height_of t.held.processed) h)
            tested true has = same_processed (true && rest_of) ∙ (ap (λ c. nat_lt (height_of u.held.processed) h && (c && rest_of)) (sym before) ∙ none_before h)
              where
                before : has_height u.held.blocks.held h ≡ true
                before = ⊎_elim (λ old. old) (λ any. absurd (let no : false ≡ true = sym none ∙ any in cc)) (with_fills-cases u.held.blocks.held pass.blocks h (subst (λ xs. IsTrue (has_height xs h)) ran.blocks has))

    abbrev writes : Writes n e no_floor n'
    writes = record {
      repaired = put;
      by_repair = by_repair;
      each_once = λ h. once_each u.held.blocks.held pass.blocks h pass.new;
      blocking = 0;
      within = omega arith;
      at_least = omega arith;
      covered = ap (λ (w : Writing). w.covered) ran.writes ∙ (reach.comes.writes.covered ∙ ap (λ k. max (max a.held.writes.covered (finished_position a.held.writes.syncs e)) k) reach.unblocked);
      uncovered = ap (λ (w : Writing). w.uncovered) ran.writes ∙ (ap (λ us. us ++ put) is.uncovered ∙ (append_assoc a.held.writes.uncovered own put ∙ sym (ap (λ k. drop k (a.held.writes.uncovered ++ (own ++ put))) minus)));
      syncs = ap (λ (w : Writing). w.syncs) ran.writes ∙ reach.comes.writes.syncs;
    }
      where
        minus : t.held.writes.covered - a.held.writes.covered ≡ 0
        minus = let c : t.held.writes.covered ≡ u.held.writes.covered = ap (λ (w : Writing). w.covered) ran.writes in let d : u.held.writes.covered ≡ a.held.writes.covered = is.covered in omega arith

    -- WHAT IS STORED BY REPAIR

    cache_is : t.held.cache ≡ u.held.cache
    cache_is = ap (λ h. h.cache) ran.same

    filled : (bs : List Block) (h : ℕ) → IsTrue (any_height bs h) → (b : Block) × Contains bs b × (b.height ≡ h)
    filled [] h any = absurd (let no : false ≡ true = any in cc)
    filled (b ∷ bs) h any = by (b.height == h) refl any (filled bs h)
      where
        by : (c : Bool) → (b.height == h) ≡ c → (c || any_height bs h) ≡ true → (IsTrue (any_height bs h) → (d : Block) × Contains bs d × (d.height ≡ h)) → (d : Block) × Contains (b ∷ bs) d × (d.height ≡ h)
        by true same there rest = (b, (zero, omega arith, refl), eqb-true b.height h same)
        by false other there rest = let (d, has, at_h) = rest there in (d, (suc has.0, (let low = has.1 in omega arith), has.2), at_h)

    with_fills_value : (xs : List (At Block)) (bs : List Block) (h : ℕ) (b : Block) → value_at xs h ≡ Some b → value_at (with_fills xs bs) h ≡ Some b
    with_fills_value xs [] h b at_h = at_h
    with_fills_value xs (c ∷ bs) h b at_h = with_fills_value (with_fill xs c) bs h b (by (is_held xs c))
      where
        by : (p : Bool) → value_at (if p then xs else xs ++ at_own_height c ∷ []) h ≡ Some b
        by true = at_h
        by false = value_at-append_found xs (at_own_height c ∷ []) h b at_h

    -- a fill's block is the one that is held at its height
    fill_value : (xs : List (At Block)) (bs : List Block) (b : Block) → AreNew xs bs → Contains bs b → value_at (with_fills xs bs) b.height ≡ Some b
    fill_value xs [] b new has = absurd (let low : has.0 < 0 = has.1 in omega arith)
    fill_value xs (c ∷ bs) b new (zero, low, same) = subst (λ (d : Block). value_at (with_fills (with_fill xs c) bs) d.height ≡ Some d) same (with_fills_value (with_fill xs c) bs c.height c (put_value (is_held xs c) refl))
      where
        put_value : (p : Bool) → is_held xs c ≡ p → value_at (with_fill xs c) c.height ≡ Some c
        put_value true held = absurd (let no : true ≡ false = sym held ∙ new.0 in cc)
        put_value false free = subst (λ (p : Bool). value_at (if p then xs else xs ++ at_own_height c ∷ []) c.height ≡ Some c) (sym free)
            (value_at-append xs (at_own_height c ∷ []) c.height ∙ (ap (λ o. option_or o (value_at (at_own_height c ∷ []) c.height)) (missing-from_has_height xs c.height (not_first (has_height xs c.height) _ free)) ∙ value_at-one c.height c))
    fill_value xs (c ∷ bs) b new (suc k, low, same) = fill_value (with_fill xs c) bs b new.1 (k, omega arith, same)

    the_fill : (h : ℕ) (b : Block) → IsTrue (list_any (λ k. k == h) put) → value_at t.held.blocks.held h ≡ Some b → Contains pass.blocks b × (b.height ≡ h)
    the_fill h b any at_h =
        let (c, has, own_h) = filled pass.blocks h any in
        let there : value_at t.held.blocks.held c.height ≡ Some c = subst (λ xs. value_at xs c.height ≡ Some c) (sym ran.blocks) (fill_value u.held.blocks.held pass.blocks c pass.new has) in
        let same : c ≡ b = same_Some c b (sym there ∙ (ap (value_at t.held.blocks.held) own_h ∙ at_h)) in
        (subst (Contains pass.blocks) same has, ap (λ (d : Block). d.height) (sym same) ∙ own_h)

    fill_of_chain : (bs : List Block) → AllByRecursion (IsFill chain (buffer ++ filter_map cached_block u.held.cache.kept.held)) bs → (b : Block) → Contains bs b → Contains (buffer ++ filter_map cached_block u.held.cache.kept.held) b
    fill_of_chain [] are b has = absurd (let low : has.0 < 0 = has.1 in omega arith)
    fill_of_chain (c ∷ bs) are b (zero, low, same) = subst (Contains (buffer ++ filter_map cached_block u.held.cache.kept.held)) same are.0.from
    fill_of_chain (c ∷ bs) are b (suc k, low, same) = fill_of_chain bs are.1 b (k, omega arith, same)

    repairs : RepairsFromHand config n e no_floor put n'
    repairs = record {
      at_hand = λ h b any at_h. hand b (fill_of_chain pass.blocks pass.fills b (the_fill h b any at_h).0);
      with_finalization = λ h b any at_h some. subst (λ k. IsTrue (has_height t.held.certs.held k)) (the_fill h b any at_h).1 (is.finalized b (the_fill h b any at_h).0 some);
    }
      where
        entries : List Cached
        entries = entries_with_puts config n u.held.cache.kept.held e no_floor

        among : (b : Block) → Contains (filter_map cached_block u.held.cache.kept.held) b → Contains (filter_map cached_block entries) b
        among b has = AllByRecursion-contains (Contains (filter_map cached_block entries)) (filter_map cached_block u.held.cache.kept.held) b
            (all_found_from cached_block (Contains (filter_map cached_block entries)) u.held.cache.kept.held (λ x c there found. all_found_of cached_block (Contains (filter_map cached_block entries)) entries x c (AllByRecursion-from_contains (Contains (filter_map cached_block entries)) (filter_map cached_block entries) (λ d inside. inside)) (reach.comes.cache.advances.nothing_else x there) found)) has

        hand : (b : Block) → Contains (buffer ++ filter_map cached_block u.held.cache.kept.held) b → Contains (repairs_from config n e no_floor n') b
        hand b has = subst (λ c. Contains (buffer ++ filter_map cached_block (entries_with_puts config n c.kept.held e no_floor)) b) (sym cache_is)
            (⊎_elim (λ first. Contains-append_left buffer (filter_map cached_block entries) b first) (λ far. Contains-append_right buffer (filter_map cached_block entries) b (among b far)) (Contains-append_cases buffer (filter_map cached_block u.held.cache.kept.held) b has))

    contains_height : (bs : List Block) (b : Block) → Contains bs b → Contains (map (λ c. c.height) bs) b.height
    contains_height [] b has = absurd (let low : has.0 < 0 = has.1 in omega arith)
    contains_height (c ∷ bs) b (zero, low, same) = (zero, omega arith, ap (λ (d : Block). d.height) same)
    contains_height (c ∷ bs) b (suc k, low, same) = let rest = contains_height bs b (k, omega arith, same) in (suc rest.0, (let l = rest.1 in omega arith), rest.2)

    enters : EntersAt (own_heights n e no_floor ++ put) n n'
    enters = record { blocks = blocks_in; certs = certs_in }
      where
        more_in : (h : ℕ) → IsTrue (has_height a.held.blocks.held h) ⊎ Contains (own_heights n e no_floor) h → IsTrue (has_height a.held.blocks.held h) ⊎ Contains (own_heights n e no_floor ++ put) h
        more_in h (inl old) = inl old
        more_in h (inr own_h) = inr (Contains-append_left (own_heights n e no_floor) put h own_h)

        blocks_in : (h : ℕ) → IsTrue (has_height t.held.blocks.held h) → IsTrue (has_height a.held.blocks.held h) ⊎ Contains (own_heights n e no_floor ++ put) h
        blocks_in h has = ⊎_elim (λ old. more_in h (reach.enters.blocks h old))
            (λ any. let (c, there, at_h) = filled pass.blocks h any in inr (subst (Contains (own_heights n e no_floor ++ put)) at_h (Contains-append_right (own_heights n e no_floor) put c.height (contains_height pass.blocks c there))))
            (with_fills-cases u.held.blocks.held pass.blocks h (subst (λ xs. IsTrue (has_height xs h)) ran.blocks has))

        more_certs : (h : ℕ) → IsTrue (has_height a.held.certs.held h) ⊎ Contains (own_heights n e no_floor) h → IsTrue (has_height a.held.certs.held h) ⊎ Contains (own_heights n e no_floor ++ put) h
        more_certs h (inl old) = inl old
        more_certs h (inr own_h) = inr (Contains-append_left (own_heights n e no_floor) put h own_h)

        certs_in : (h : ℕ) → IsTrue (has_height t.held.certs.held h) → IsTrue (has_height a.held.certs.held h) ⊎ Contains (own_heights n e no_floor ++ put) h
        certs_in h has =
            let (v, at_h) = value-from_has_height t.held.certs.held h has in
            ⊎_elim (λ old. more_certs h (reach.enters.certs h (has_height-from_contains u.held.certs.held (record { height = h; value = v }) old)))
            (λ new. let (c, there, own_h) = pass.certs_at (record { height = h; value = v }) new in inr (subst (Contains (own_heights n e no_floor ++ put)) own_h (Contains-append_right (own_heights n e no_floor) put c.height (contains_height pass.blocks c there))))
            (ran.certs_from (record { height = h; value = v }) (Contains-from_value t.held.certs.held h v at_h))

    cache_moves : MovesCache config chain a (at life t) e buffer waiting
    cache_moves = record {
      put = reach.comes.cache.put;
      prunes = reach.comes.cache.prunes;
      own = reach.comes.cache.own;
      leaves = subst (λ h. LeavesCache (left_of a.held.cache.kept) a.held.lowests reach.comes.cache.put reach.comes.cache.prunes (left_of h.cache.kept) h.lowests) (sym ran.same) reach.comes.cache.leaves;
      advances = AdvancesCache-beside config n e no_floor (at life u) (at life t) buffer buffer waiting waiting ran.same reach.comes.cache.advances;
    }

    grew : Grew u.held (written_row pass.blocks pass.certs) t.held
    grew = ran.grew u.held (written_row pass.blocks pass.certs) (Grew-refl u.held (written_row pass.blocks pass.certs) is.lawful.blocks is.lawful.certs) (WithinWritten-refl (written_row pass.blocks pass.certs))

    stored_on : (s : Storing) → IsStored (node_of (at life u) buffer waiting) s → IsStored n' s
    stored_on s there = record {
      block = ⊎_elim (λ has. inl (kept_has s.height has)) (λ low. inr (subst (λ p. s.height ≤ height_of p) (sym processed_is) low)) there.block;
      certificate = λ with_it high. kept_cert s.height (there.certificate with_it (subst (λ p. height_of p < s.height) processed_is high));
    }

    -- so the event has reached that scene
    pub Reaches-passed : ReachesBy config chain a e buffer waiting (tips ++ ran.tips) pass.asks (at life t)
    Reaches-passed = record {
      comes = record {
        no_part = reach.comes.no_part;
        kept = ap (λ l. l.out) ran.life ∙ reach.comes.kept;
        next_ack = ap (λ l. l.next_ack) ran.life ∙ reach.comes.next_ack;
        next_sync = ap (λ (w : Writing). w.next_sync) ran.writes ∙ reach.comes.next_sync;
        sizes = ap (λ l. l.sizes) ran.life ∙ reach.comes.sizes;
        processed = processed_is ∙ reach.comes.processed;
        cutoff = ap (λ h. h.cutoff) ran.same ∙ reach.comes.cutoff;
        blocks = record {
          keeps = blocks_kept;
          put = reach.comes.blocks.put ++ map at_own_height pass.blocks;
          grown = Grown-then a.held.blocks reach.comes.blocks.put u.held.blocks (map at_own_height pass.blocks) t.held.blocks reach.comes.blocks.grown (Grown-blocks u.held t.held (written_row pass.blocks pass.certs) refl grew);
          of_chain = AllByRecursion-append (λ x. IsBlockAt chain x.height x.value) reach.comes.blocks.put (map at_own_height pass.blocks) reach.comes.blocks.of_chain (of_fills pass.blocks pass.fills);
          own = own_blocks;
        };
        certs = record {
          keeps = certs_kept;
          put = reach.comes.certs.put ++ pass.certs;
          grown = Grown-then a.held.certs reach.comes.certs.put u.held.certs pass.certs t.held.certs reach.comes.certs.grown (Grown-certs u.held t.held (written_row pass.blocks pass.certs) refl grew);
          of_chain = AllByRecursion-append (λ x. Finalizes chain x.height x.value.round x.value.payload) reach.comes.certs.put pass.certs reach.comes.certs.of_chain pass.of_certs;
          own = own_certs;
        };
        certificates = certificates;
        writes = writes;
        are_tips = both_tips tips ran.tips reach.comes.are_tips ran.are_tips;
        tips_rise = both_rise a.life.tip u.life.tip t.life.tip tips ran.tips reach.comes.tips_rise ran.rise;
        tips_chain = both_chain chain tips ran.tips reach.comes.tips_chain ran.tips_chain;
        cache = cache_moves;
        stored = IfSome-more (IsStored (node_of (at life u) buffer waiting)) (IsStored n') stored_on (storing_of n e) reach.comes.stored;
        stored_late = IfSome-more (IsStoredLate n no_floor (node_of (at life u) buffer waiting)) (IsStoredLate n no_floor n') (λ s late with_it low held. kept_cert s.height (late with_it low held)) (storing_of n e) reach.comes.stored_late;
      };
      repairs = repairs;
      unrepaired = λ k not_pass. absurd (let no : false ≡ true = sym not_pass ∙ is.passes k in cc);
      unblocked = λ k not_blocking. refl;
      enters = enters;
      once = is.once;
      idle = λ k not_pass. absurd (let no : false ≡ true = sym not_pass ∙ is.passes k in cc);
      repaired = λ k pass_k. is.law;
      fetches = inr (is.may, pass.honest);
    }
