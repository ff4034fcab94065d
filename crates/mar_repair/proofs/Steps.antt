-- One step of a walk, one behind another, and that they end.
use Rattle.std.proofs.Common.{◌≡◌, ◌∷◌, ◌++◌, [], List, Result, Ok, Err, OnOk, IfOk, Option, None, Some, Bool, true, false, if◌then◌else◌, ℕ, zero, suc, ◌+◌, ◌<◌, ◌≤◌, ◌==◌, IsTrue, refl, sym, ◌∙◌, ap, subst, arith, append-nil, append_assoc, inl, inr}
use Rattle.std.proofs.lemmas.Bool.Decides.{nat_tests}
use Rattle.std.specs.Prelude.{◌||◌}
use Rattle.mar_cert.specs.Block.{Block}
use Rattle.mar_store.specs.Kept.{At, has_height}
use Rattle.mar_store.proofs.Lookups.{has_height-append, has_height-push_same}
use Rattle.mar_model.specs.Acts.{Joins, LosesOver}
use Rattle.mar_model.specs.Faults.{Fault}
use Rattle.mar_model.specs.Held.{Ending, Held, IsReadFault, nothing_written}
use Rattle.mar_model.specs.Promise.{Heard}
use Rattle.mar_model.specs.Ran.{BreaksActs, Reads, RunsActs}
use Rattle.mar_model.specs.Repair.{AreFills, EndsFills, Search, cached_for, fill_acts, fill_of, fills_acts, search_of, with_fill, with_fills}
use Rattle.mar_model.specs.Scene.{Scene, Standing, Window, scene}
use Rattle.mar_model.specs.Stored.{at_own_height, is_held}
use Rattle.mar_model.proofs.Acting.{BreaksActs-append, BreaksActs-read, RunsActs-append, RunsActs-read}
use Rattle.mar_model.proofs.RepairWalk.{with_fill-has}
use Rattle.mar_model.proofs.Running.{Reads-refl}
use Rattle.mar_repair.specs.Walk.{DoesActs, OnlyStores, StopsWalk, Walks, WalksOn, unheld}
use Rattle.mar_repair.proofs.Rows.{failed_read, same_search}

-- HEIGHTS THAT HAVE NO BLOCK

has_more : (xs : List (At Block)) (b : Block) (k : ℕ) → has_height xs k ≡ true → has_height (xs ++ at_own_height b ∷ []) k ≡ true
has_more xs b k has = has_height-append xs (at_own_height b ∷ []) k ∙ ap (λ (c : Bool). c || has_height (at_own_height b ∷ []) k) has

unheld_more : (n : ℕ) (xs : List (At Block)) (b : Block) → unheld n (xs ++ at_own_height b ∷ []) ≤ unheld n xs
unheld_more zero xs b = let none : 0 ≤ 0 = omega arith in none
unheld_more (suc n) xs b = by (has_height xs n) refl (has_height (xs ++ at_own_height b ∷ []) n) refl (unheld_more n xs b)
  where
    by : (p : Bool) → has_height xs n ≡ p → (q : Bool) → has_height (xs ++ at_own_height b ∷ []) n ≡ q → unheld n (xs ++ at_own_height b ∷ []) ≤ unheld n xs → (if q then unheld n (xs ++ at_own_height b ∷ []) else unheld n (xs ++ at_own_height b ∷ []) + 1) ≤ (if p then unheld n xs else unheld n xs + 1)
    by true has true has' rest = rest
    by true has false lacks rest = absurd (let both : false ≡ true = sym lacks ∙ has_more xs b n has in cc)
    by false lacks true has rest = omega (arith, rest)
    by false lacks false lacks' rest = omega (arith, rest)

unheld_falls : (n : ℕ) (xs : List (At Block)) (b : Block) → b.height < n → has_height xs b.height ≡ false → unheld n (xs ++ at_own_height b ∷ []) < unheld n xs
unheld_falls zero xs b below missing = absurd (omega (arith, below))
unheld_falls (suc n) xs b below missing = at (b.height == n) refl (λ less. unheld_falls n xs b less missing)
  where
    same_height : (b.height == n) ≡ true → b.height ≡ n
    same_height is = grind (arith, nat_tests)

    other_height : (b.height == n) ≡ false → b.height < n
    other_height is = grind (arith, nat_tests)

    by : (p : Bool) → has_height xs n ≡ p → (q : Bool) → has_height (xs ++ at_own_height b ∷ []) n ≡ q → unheld n (xs ++ at_own_height b ∷ []) < unheld n xs → (if q then unheld n (xs ++ at_own_height b ∷ []) else unheld n (xs ++ at_own_height b ∷ []) + 1) < (if p then unheld n xs else unheld n xs + 1)
    by true has true has' rest = rest
    by true has false lacks rest = absurd (let both : false ≡ true = sym lacks ∙ has_more xs b n has in cc)
    by false lacks true has rest = omega (arith, rest)
    by false lacks false lacks' rest = omega (arith, rest)

    own : (p : Bool) → has_height xs n ≡ p → p ≡ false → (q : Bool) → has_height (xs ++ at_own_height b ∷ []) n ≡ q → q ≡ true → (if q then unheld n (xs ++ at_own_height b ∷ []) else unheld n (xs ++ at_own_height b ∷ []) + 1) < (if p then unheld n xs else unheld n xs + 1)
    own false lacks none true has there = let more = unheld_more n xs b in omega (arith, more)
    own true has none q is there = absurd cc
    own false lacks none false is there = absurd cc

    at : (c : Bool) → (b.height == n) ≡ c → (b.height < n → unheld n (xs ++ at_own_height b ∷ []) < unheld n xs) → unheld (suc n) (xs ++ at_own_height b ∷ []) < unheld (suc n) xs
    at true is rest = own (has_height xs n) refl (subst (λ k. has_height xs k ≡ false) (same_height is) missing) (has_height (xs ++ at_own_height b ∷ []) n) refl (subst (λ k. has_height (xs ++ at_own_height b ∷ []) k ≡ true) (same_height is) ((has_height-push_same xs b.height b)))
    at false is rest = by (has_height xs n) refl (has_height (xs ++ at_own_height b ∷ []) n) refl (rest (other_height is))

-- SOME FILLS, AND THEN OTHERS

fills_then : (s : Search) (held : List (At Block)) (xs ys : List Block) → AreFills s held xs → AreFills s (with_fills held xs) ys → AreFills s held (xs ++ ys)
fills_then s held [] ys first second = second
fills_then s held (x ∷ xs) ys (is, first) second = (is, fills_then s (with_fill held x) xs ys first second)

held_then : (held : List (At Block)) (xs ys : List Block) → with_fills held (xs ++ ys) ≡ with_fills (with_fills held xs) ys
held_then held [] ys = refl
held_then held (x ∷ xs) ys = held_then (with_fill held x) xs ys

acts_then : (s : Search) (xs ys : List Block) → fills_acts s (xs ++ ys) ≡ fills_acts s xs ++ fills_acts s ys
acts_then s [] ys = refl
acts_then s (x ∷ xs) ys = ap (λ acts. fill_acts (cached_for s.inner s.cached x.commitment) x ++ acts) (acts_then s xs ys) ∙ sym (append_assoc (fill_acts (cached_for s.inner s.cached x.commitment) x) (fills_acts s xs) (fills_acts s ys))

module _ (inner : List ℕ → List ℕ) (buffer : List Block) where
  module _ (s m : Scene) (kept : OnlyStores s.held m.held) (walked : Walks inner buffer s m) where
    abbrev search : Search
    search = search_of inner buffer s.held

    same : search_of inner buffer m.held ≡ search
    same = same_search inner buffer s.held m.held kept

    more : (fills : List Block) → AreFills (search_of inner buffer m.held) m.held.blocks.held fills → AreFills search s.held.blocks.held (walked.fills ++ fills)
    more fills are = fills_then search s.held.blocks.held walked.fills fills walked.are (subst (λ k. AreFills k (with_fills s.held.blocks.held walked.fills) fills) same (subst (λ held. AreFills (search_of inner buffer m.held) held fills) walked.held are))

    acts : (fills : List Block) → fills_acts search walked.fills ++ fills_acts (search_of inner buffer m.held) fills ≡ fills_acts search (walked.fills ++ fills)
    acts fills = ap (λ k. fills_acts search walked.fills ++ fills_acts k fills) same ∙ sym (acts_then search walked.fills fills)

    pub walks_then : (t : Scene) → Walks inner buffer m t → Walks inner buffer s t
    walks_then t next = record {
      fills = walked.fills ++ next.fills;
      are = more next.fills next.are;
      held = next.held ∙ (ap (λ held. with_fills held next.fills) walked.held ∙ sym (held_then s.held.blocks.held walked.fills next.fills));
      ran = subst (λ row. RunsActs inner s row t) (acts next.fills) (RunsActs-append inner _ _ s m t walked.ran next.ran);
    }

    pub stops_then : {e : Ending} {heard : Heard} → StopsWalk inner buffer m e heard → StopsWalk inner buffer s e heard
    stops_then {e} {heard} next = record {
      fills = walked.fills ++ next.fills;
      are = more next.fills next.are;
      broke = subst (λ row. BreaksActs inner s row e heard) (acts next.fills) (BreaksActs-append inner _ _ s m e heard walked.ran next.broke);
    }

  -- none yet
  pub walks_none : (s t : Scene) → Reads s t → Walks inner buffer s t
  walks_none s t reads = record { fills = []; are = tt; held = ap (λ x. x.held.blocks.held) reads.same; ran = reads }

  pub walks_read : (old new : Held) (life : Window) (standing : Standing) (heard : Heard) → new ≡ record old { watches = new.watches } → Joins old nothing_written new → Walks inner buffer (scene old life standing heard) (scene new life standing heard)
  walks_read old new life standing heard same joins = walks_none (scene old life standing heard) (scene new life standing heard) (record { joins = joins; same = ap (λ h. scene h life standing heard) same })

  pub walks_first : (s : Scene) → Walks inner buffer s s
  walks_first s = record { fills = []; are = tt; held = refl; ran = Reads-refl s }

  pub stops_unread : (old : Held) (life : Window) (standing : Standing) (heard : Heard) {e : Ending} → LosesOver old nothing_written e → IsReadFault e.fault → StopsWalk inner buffer (scene old life standing heard) e heard
  stops_unread old life standing heard goes read = record { fills = []; are = tt; broke = failed_read inner [] old life standing heard goes read }

  -- one more
  module _ (old one : Held) (same_one : one ≡ record old { watches = one.watches }) (b : Block) (found : Some b ≡ fill_of (search_of inner buffer old) old.blocks.held) where
    module _ (life : Window) (standing : Standing) (heard : Heard) (joins : Joins old nothing_written one) where
      row : fill_acts (cached_for inner one.cache.kept.held b.commitment) b ≡ fills_acts (search_of inner buffer old) (b ∷ [])
      row = ap (λ h. fill_acts (cached_for inner h.cache.kept.held b.commitment) b) same_one ∙ sym (append-nil (fill_acts (cached_for inner old.cache.kept.held b.commitment) b))

      reads : Reads (scene old life standing heard) (scene one life standing heard)
      reads = record { joins = joins; same = ap (λ h. scene h life standing heard) same_one }

      pub walks_one : (t : Scene) → t.held.blocks.held ≡ with_fill one.blocks.held b → RunsActs inner (scene one life standing heard) (fill_acts (cached_for inner one.cache.kept.held b.commitment) b) t → Walks inner buffer (scene old life standing heard) t
      walks_one t holds ran = record {
        fills = b ∷ [];
        are = (sym found, tt);
        held = holds ∙ ap (λ h. with_fill h.blocks.held b) same_one;
        ran = subst (λ acts. RunsActs inner (scene old life standing heard) acts t) row (RunsActs-read inner _ _ _ t reads ran);
      }

      pub stops_one : {e : Ending} {heard' : Heard} → BreaksActs inner (scene one life standing heard) (fill_acts (cached_for inner one.cache.kept.held b.commitment) b) e heard' → StopsWalk inner buffer (scene old life standing heard) e heard'
      stops_one {e} {heard'} broke = record {
        fills = b ∷ [];
        are = (sym found, tt);
        broke = subst (λ acts. BreaksActs inner (scene old life standing heard) acts e heard') row (BreaksActs-read inner _ _ _ e heard' reads broke);
      }

      -- by the call that stores it
      pub walks_by : {T C : Type 0} (fault : C → Fault) (t : Scene) (result : Result T C) → OnOk result (t.held.blocks.held ≡ with_fill one.blocks.held b) → DoesActs inner fault (fill_acts (cached_for inner one.cache.kept.held b.commitment) b) (scene one life standing heard) t result → WalksOn inner fault buffer (scene old life standing heard) t result
      walks_by fault t (Ok x) holds ran = walks_one t holds ran
      walks_by fault t (Err c) holds broke = stops_one broke

    -- whether it was put, by whether its height is held now
    module _ (new : List (At Block)) (holds : new ≡ with_fill one.blocks.held b) where
      put : new ≡ with_fill old.blocks.held b
      put = holds ∙ ap (λ h. with_fill h.blocks.held b) same_one

      put_by : (c : Bool) → is_held old.blocks.held b ≡ c → new ≡ (if c then old.blocks.held else old.blocks.held ++ at_own_height b ∷ [])
      put_by c is = put ∙ ap (λ (d : Bool). if d then old.blocks.held else old.blocks.held ++ at_own_height b ∷ []) is

      pub ends_ignored : has_height new b.height ≡ false → EndsFills (search_of inner buffer old) new
      ends_ignored missing = by (is_held old.blocks.held b) refl
        where
          by : (c : Bool) → is_held old.blocks.held b ≡ c → EndsFills (search_of inner buffer old) new
          by true is = let still : new ≡ old.blocks.held = put_by true is in inr (b, ap (fill_of (search_of inner buffer old)) still ∙ sym found, ap (λ held. is_held held b) still ∙ is)
          by false is = absurd (let has : has_height new b.height ≡ true = ap (λ held. has_height held b.height) (put_by false is) ∙ (has_height-push_same old.blocks.held b.height b) in let both : false ≡ true = sym missing ∙ has in cc)

      pub falls_put : (n : ℕ) → b.height < n → has_height old.blocks.held b.height ≡ false → has_height new b.height ≡ true → unheld n new < unheld n old.blocks.held
      falls_put n below missing has = by (is_held old.blocks.held b) refl
        where
          by : (c : Bool) → is_held old.blocks.held b ≡ c → unheld n new < unheld n old.blocks.held
          by true is = absurd (let both : false ≡ true = sym missing ∙ (sym (ap (λ held. has_height held b.height) (put_by true is)) ∙ has) in cc)
          by false is = subst (λ held. unheld n held < unheld n old.blocks.held) (sym (put_by false is)) (unheld_falls n old.blocks.held b below missing)

    module _ {C : Type 0} (new : Held) (result : Result Bool C) (holds : OnOk result (new.blocks.held ≡ with_fill one.blocks.held b)) (has : IfOk result (λ r. r ≡ has_height new.blocks.held b.height)) where
      pub ends_by : IfOk result (λ r. r ≡ false → EndsFills (search_of inner buffer old) new.blocks.held)
      ends_by = by result holds has
        where
          by : (r : Result Bool C) → OnOk r (new.blocks.held ≡ with_fill one.blocks.held b) → IfOk r (λ x. x ≡ has_height new.blocks.held b.height) → IfOk r (λ x. x ≡ false → EndsFills (search_of inner buffer old) new.blocks.held)
          by (Ok x) holds_x has_x = λ none. ends_ignored new.blocks.held holds_x (sym has_x ∙ none)
          by (Err c) holds_x has_x = tt

      pub falls_by : (n : ℕ) → b.height < n → has_height old.blocks.held b.height ≡ false → IfOk result (λ r. r ≡ true → unheld n new.blocks.held < unheld n old.blocks.held)
      falls_by n below missing = by result holds has
        where
          by : (r : Result Bool C) → OnOk r (new.blocks.held ≡ with_fill one.blocks.held b) → IfOk r (λ x. x ≡ has_height new.blocks.held b.height) → IfOk r (λ x. x ≡ true → unheld n new.blocks.held < unheld n old.blocks.held)
          by (Ok x) holds_x has_x = λ there. falls_put new.blocks.held holds_x n below missing (sym has_x ∙ there)
          by (Err c) holds_x has_x = tt

  pub ends_unfound : (old new : Held) → new ≡ record old { watches = new.watches } → None ≡ fill_of (search_of inner buffer old) old.blocks.held → EndsFills (search_of inner buffer old) new.blocks.held
  ends_unfound old new same none = inl (ap (λ h. fill_of (search_of inner buffer old) h.blocks.held) same ∙ sym none)
