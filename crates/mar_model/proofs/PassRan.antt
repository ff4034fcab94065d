-- What a row of acts of a pass makes of a scene.
use Rattle.std.proofs.Common.{◌≡◌, ◌⊎◌, inl, inr, ⊎_elim, ◌∷◌, [], List, ◌++◌, map, Contains, IsTrue, Some, Bool, true, false, cond, nat_lt, bytes_eq, ◌||◌, zero, suc, ℕ, ◌<◌, ◌≤◌, arith, refl, sym, ◌∙◌, ap, subst, append-nil, append_assoc}
use Rattle.std.specs.Prelude.{⊤}
use Rattle.std.specs.List.{AllByRecursion, list_any}
use Rattle.std.proofs.lemmas.Bool.Decides.{nat_tests}
use Rattle.std.proofs.lemmas.List.{map-append}
use Rattle.std.proofs.lemmas.List.Elements.{Contains-append_cases, Contains-append_left, Contains-append_right}
use Rattle.mar_types.specs.Round.{Round}
use Rattle.mar_cert.specs.Block.{Block}
use Rattle.mar_cert.specs.Finalization.{Finalization}
use Rattle.mar_key.specs.Hears.{Hears}
use Rattle.mar_key.specs.Keys.{Call}
use Rattle.mar_store.specs.Changes.{KeepsValues}
use Rattle.mar_store.specs.Kept.{At, has_height, value_at}
use Rattle.mar_store.proofs.Lookups.{has_height-from_value, value-from_has_height}
use Rattle.mar_model.specs.Chain.{Chain, IsFinal, digest_at}
use Rattle.mar_model.specs.Held.{Grew, Held, WithinWritten, Written, nothing_written}
use Rattle.mar_model.specs.Moves.{at_height, risen_to, tips_above}
use Rattle.mar_model.specs.Promise.{Heard}
use Rattle.mar_model.specs.Repair.{with_fill, with_fills}
use Rattle.mar_model.specs.Step.{AreTipsOf, Report, TipsFrom}
use Rattle.mar_model.specs.Stored.{at_own_height, is_certified}
use Rattle.mar_model.specs.Acts.{Act, AreLawful, IsDone, ask, says, store, store_block, stores, tell}
use Rattle.mar_model.specs.Ran.{Reads, RunsActs}
use Rattle.mar_gate.specs.Writing.{Writing}
use Rattle.mar_model.specs.Scene.{Scene, Window}
use Rattle.mar_model.proofs.Acting.{IsPassAct}
use Rattle.mar_model.proofs.Growing.{WithinWritten-nothing}
use Rattle.mar_model.proofs.Handing.{Hears-nothing, Hears-then}
use Rattle.mar_model.proofs.Reaching.{AreTips}
use Rattle.mar_model.proofs.AtHand.{bytes_same}
use Rattle.mar_model.proofs.Cutting.{only_one}
use Rattle.mar_model.proofs.StoredValues.{PutIn, held_kept, stored_height}
use Rattle.mar_model.proofs.Tips.{both_chain, both_rise, both_tips, tips_above-chain, tips_above-rise, tips_above-tips}

-- what a row of acts puts, tells and asks
abbrev pub row_blocks : List Act → List Block
row_blocks [] = []
row_blocks (stores (store f b) ∷ acts) = b ∷ row_blocks acts
row_blocks (stores (store_block b) ∷ acts) = b ∷ row_blocks acts
row_blocks (a ∷ acts) = row_blocks acts

abbrev pub row_certs : List Act → List (At Finalization)
row_certs [] = []
row_certs (stores (store f b) ∷ acts) = at_height b.height f ∷ row_certs acts
row_certs (a ∷ acts) = row_certs acts

abbrev pub row_tells : List Act → List ℕ
row_tells [] = []
row_tells (says (tell r h d) ∷ acts) = h ∷ row_tells acts
row_tells (a ∷ acts) = row_tells acts

abbrev pub row_asks : List Act → List Call
row_asks [] = []
row_asks (says (ask calls) ∷ acts) = calls ++ row_asks acts
row_asks (a ∷ acts) = row_asks acts

abbrev pub written_row : List Block → List (At Finalization) → Written
written_row bs cs = record nothing_written { blocks = map at_own_height bs; certs = cs }

-- a tip that is told is finalized
abbrev pub TellsFinal : Chain → Act → Type 0
TellsFinal chain (says (tell r h d)) = IsFinal chain r h × (digest_at chain h ≡ Some d)
TellsFinal chain _ = ⊤

-- What has become of a scene since these blocks and finalizations were put, these heights told, and this asked.
pub record RowRan (inner : List ℕ → List ℕ) (chain : Chain) (bs : List Block) (cs : List (At Finalization)) (hs : List ℕ) (asks : List Call) (s t : Scene) : Type 0 where
  pub grew : (start : Held) (all : Written) → Grew start all s.held → WithinWritten (written_row bs cs) all → Grew start all t.held
  pub lawful : AreLawful s.held → AreLawful t.held
  pub blocks : t.held.blocks.held ≡ with_fills s.held.blocks.held bs
  pub kept_blocks : KeepsValues s.held.blocks.held t.held.blocks.held
  pub kept_certs : KeepsValues s.held.certs.held t.held.certs.held
  pub sure_blocks : t.held.blocks.sure ≡ s.held.blocks.sure
  pub sure_certs : t.held.certs.sure ≡ s.held.certs.sure
  pub certs_from : (x : At Finalization) → Contains t.held.certs.held x → Contains s.held.certs.held x ⊎ Contains cs x
  pub certs_placed : (x : At Finalization) → Contains cs x → IsTrue (has_height t.held.certs.held x.height) ⊎ ((y : At Finalization) × Contains t.held.certs.held y × (inner y.value.payload ≡ inner x.value.payload))
  pub certs_on : (x : At Finalization) → Contains s.held.certs.held x → Contains t.held.certs.held x
  pub writes : t.held.writes ≡ record s.held.writes { uncovered = s.held.writes.uncovered ++ map (λ b. b.height) bs }
  pub same : t.held ≡ record s.held { blocks = t.held.blocks; certs = t.held.certs; writes = t.held.writes; watches = t.held.watches }
  pub life : t.life ≡ record s.life { tip = t.life.tip }
  pub standing : t.standing ≡ s.standing
  pub tips : List Report
  pub told : Hears s.heard.reports tips t.heard.reports
  pub are_tips : AreTips tips
  pub rise : TipsFrom s.life.tip tips t.life.tip
  pub tips_chain : AreTipsOf chain tips
  pub reaches : (h : ℕ) → Contains hs h → h ≤ t.life.tip
  pub rises : s.life.tip ≤ t.life.tip
  pub asked : Hears s.heard.asks asks t.heard.asks
  pub quiet : t.heard ≡ record s.heard { reports = t.heard.reports; asks = t.heard.asks }

-- A READ

lawful_read : (s t : Scene) → Reads s t → AreLawful s.held → AreLawful t.held
lawful_read s t reads law = subst (λ (x : Scene). AreLawful x.held) (sym reads.same) (record {
  blocks = law.blocks;
  certs = law.certs;
  written = record { blocks = law.written.blocks; certs = law.written.certs; ordered = law.written.ordered };
  cached = record { nested = law.cached.nested; own_lowest = law.cached.own_lowest; own_tickets = law.cached.own_tickets };
})

module _ (inner : List ℕ → List ℕ) (chain : Chain) where
  abbrev Row : List Block → List (At Finalization) → List ℕ → List Call → Scene → Scene → Type 0
  Row bs cs hs asks s t = RowRan inner chain bs cs hs asks s t

  -- where the stores are as they were but for what was counted
  still : (s t : Scene) (hs : List ℕ) (asks : List Call) (grew : (start : Held) (all : Written) → Grew start all s.held → Grew start all t.held) (law : AreLawful s.held → AreLawful t.held)
      → t.held ≡ record s.held { watches = t.held.watches } → t.life ≡ record s.life { tip = t.life.tip } → t.standing ≡ s.standing → (tips : List Report) → Hears s.heard.reports tips t.heard.reports
      → AreTips tips → TipsFrom s.life.tip tips t.life.tip → AreTipsOf chain tips → ((h : ℕ) → Contains hs h → h ≤ t.life.tip) → s.life.tip ≤ t.life.tip → Hears s.heard.asks asks t.heard.asks
      → t.heard ≡ record s.heard { reports = t.heard.reports; asks = t.heard.asks } → Row [] [] hs asks s t
  still s t hs asks grew law same life standing tips told are_tips rise tips_chain reaches rises asked quiet = record {
    grew = λ start all before within. grew start all before;
    lawful = law;
    blocks = ap (λ h. h.blocks.held) same;
    kept_blocks = λ h v is. ap (λ x. value_at x.blocks.held h) same ∙ is;
    kept_certs = λ h v is. ap (λ x. value_at x.certs.held h) same ∙ is;
    sure_blocks = ap (λ h. h.blocks.sure) same;
    sure_certs = ap (λ h. h.certs.sure) same;
    certs_from = λ x has. inl (subst (λ h. Contains h.certs.held x) same has);
    certs_placed = λ x has. absurd (let low : has.0 < 0 = has.1 in omega arith);
    certs_on = λ x has. subst (λ h. Contains h.certs.held x) (sym same) has;
    writes = ap (λ h. h.writes) same ∙ ap (λ us. record s.held.writes { uncovered = us }) (sym (append-nil s.held.writes.uncovered));
    same = same_but same;
    life = life;
    standing = standing;
    tips = tips;
    told = told;
    are_tips = are_tips;
    rise = rise;
    tips_chain = tips_chain;
    reaches = reaches;
    rises = rises;
    asked = asked;
    quiet = quiet;
  }
    where
      same_but : t.held ≡ record s.held { watches = t.held.watches } → t.held ≡ record s.held { blocks = t.held.blocks; certs = t.held.certs; writes = t.held.writes; watches = t.held.watches }
      same_but is = subst (λ (h : Held). h ≡ record s.held { blocks = h.blocks; certs = h.certs; writes = h.writes; watches = h.watches }) (sym is) refl

  Row-read : (s t : Scene) → Reads s t → Row [] [] [] [] s t
  Row-read s t reads = still s t [] [] (λ start all before. reads.joins start all before (WithinWritten-nothing all)) (lawful_read s t reads) (ap (λ (x : Scene). x.held) reads.same)
      (life_same (ap (λ (x : Scene). x.life) reads.same)) (ap (λ (x : Scene). x.standing) reads.same) [] (subst (λ r. Hears s.heard.reports [] r) (sym (ap (λ (x : Scene). x.heard.reports) reads.same)) (Hears-nothing s.heard.reports)) tt
      (ap (λ (x : Scene). x.life.tip) reads.same) tt (λ h has. absurd (let low : has.0 < 0 = has.1 in omega arith)) (let is : t.life.tip ≡ s.life.tip = ap (λ (x : Scene). x.life.tip) reads.same in omega arith)
      (subst (λ a. Hears s.heard.asks [] a) (sym (ap (λ (x : Scene). x.heard.asks) reads.same)) (Hears-nothing s.heard.asks)) (heard_same (ap (λ (x : Scene). x.heard) reads.same))
    where
      life_same : t.life ≡ s.life → t.life ≡ record s.life { tip = t.life.tip }
      life_same is = is ∙ ap (λ k. record s.life { tip = k }) (sym (ap (λ l. l.tip) is))

      heard_same : t.heard ≡ s.heard → t.heard ≡ record s.heard { reports = t.heard.reports; asks = t.heard.asks }
      heard_same is = is ∙ (ap (λ k. record s.heard { reports = k }) (sym (ap (λ (h : Heard). h.reports) is)) ∙ ap (λ k. record s.heard { reports = t.heard.reports; asks = k }) (sym (ap (λ (h : Heard). h.asks) is)))

  -- ONE BEHIND THE OTHER

  fills_append : (held : List (At Block)) (xs ys : List Block) → with_fills held (xs ++ ys) ≡ with_fills (with_fills held xs) ys
  fills_append held [] ys = refl
  fills_append held (x ∷ xs) ys = fills_append (with_fill held x) xs ys

  within_first : (bs bs' : List Block) (cs cs' : List (At Finalization)) (all : Written) → WithinWritten (written_row (bs ++ bs') (cs ++ cs')) all → WithinWritten (written_row bs cs) all
  within_first bs bs' cs cs' all within = record {
    blocks = λ x has. within.blocks x (subst (λ xs. Contains xs x) (sym (map-append at_own_height bs bs')) (Contains-append_left (map at_own_height bs) (map at_own_height bs') x has));
    certs = λ x has. within.certs x (Contains-append_left cs cs' x has);
    cached = within.cached;
    prunes = within.prunes;
    pairs = within.pairs;
    blocks_from = within.blocks_from;
    certs_from = within.certs_from;
  }

  within_second : (bs bs' : List Block) (cs cs' : List (At Finalization)) (all : Written) → WithinWritten (written_row (bs ++ bs') (cs ++ cs')) all → WithinWritten (written_row bs' cs') all
  within_second bs bs' cs cs' all within = record {
    blocks = λ x has. within.blocks x (subst (λ xs. Contains xs x) (sym (map-append at_own_height bs bs')) (Contains-append_right (map at_own_height bs) (map at_own_height bs') x has));
    certs = λ x has. within.certs x (Contains-append_right cs cs' x has);
    cached = within.cached;
    prunes = within.prunes;
    pairs = within.pairs;
    blocks_from = within.blocks_from;
    certs_from = within.certs_from;
  }

  Row-then : (bs bs' : List Block) (cs cs' : List (At Finalization)) (hs hs' : List ℕ) (asks asks' : List Call) (s t u : Scene) → Row bs cs hs asks s t → Row bs' cs' hs' asks' t u → Row (bs ++ bs') (cs ++ cs') (hs ++ hs') (asks ++ asks') s u
  Row-then bs bs' cs cs' hs hs' asks asks' s t u first second = record {
    grew = λ start all before within. second.grew start all (first.grew start all before (within_first bs bs' cs cs' all within)) (within_second bs bs' cs cs' all within);
    lawful = λ law. second.lawful (first.lawful law);
    blocks = second.blocks ∙ (ap (λ xs. with_fills xs bs') first.blocks ∙ sym (fills_append s.held.blocks.held bs bs'));
    kept_blocks = λ h v is. second.kept_blocks h v (first.kept_blocks h v is);
    kept_certs = λ h v is. second.kept_certs h v (first.kept_certs h v is);
    sure_blocks = second.sure_blocks ∙ first.sure_blocks;
    sure_certs = second.sure_certs ∙ first.sure_certs;
    certs_from = λ x has. ⊎_elim (λ mid. ⊎_elim (λ old. inl old) (λ new. inr (Contains-append_left cs cs' x new)) (first.certs_from x mid)) (λ new. inr (Contains-append_right cs cs' x new)) (second.certs_from x has);
    certs_placed = λ x has. ⊎_elim (λ early. ⊎_elim (λ there. inl (has_on x.height there)) (λ (y, there, same). inr (y, second.certs_on y there, same)) (first.certs_placed x early)) (λ late. second.certs_placed x late) (Contains-append_cases cs cs' x has);
    certs_on = λ x has. second.certs_on x (first.certs_on x has);
    writes = second.writes ∙ (ap (λ (w : Writing). record w { uncovered = w.uncovered ++ map (λ b. b.height) bs' }) first.writes
        ∙ ap (λ us. record s.held.writes { uncovered = us }) (append_assoc s.held.writes.uncovered (map (λ b. b.height) bs) (map (λ b. b.height) bs') ∙ ap (λ ys. s.held.writes.uncovered ++ ys) (sym (map-append (λ b. b.height) bs bs'))));
    same = second.same ∙ ap (λ (h : Held). record h { blocks = u.held.blocks; certs = u.held.certs; writes = u.held.writes; watches = u.held.watches }) first.same;
    life = second.life ∙ ap (λ (l : Window). record l { tip = u.life.tip }) first.life;
    standing = second.standing ∙ first.standing;
    tips = first.tips ++ second.tips;
    told = Hears-then s.heard.reports t.heard.reports u.heard.reports first.tips second.tips first.told second.told;
    are_tips = both_tips first.tips second.tips first.are_tips second.are_tips;
    rise = both_rise s.life.tip t.life.tip u.life.tip first.tips second.tips first.rise second.rise;
    tips_chain = both_chain chain first.tips second.tips first.tips_chain second.tips_chain;
    reaches = λ h has. ⊎_elim (λ early. let a : h ≤ t.life.tip = first.reaches h early in let b : t.life.tip ≤ u.life.tip = second.rises in omega arith) (λ late. second.reaches h late) (Contains-append_cases hs hs' h has);
    rises = let a : s.life.tip ≤ t.life.tip = first.rises in let b : t.life.tip ≤ u.life.tip = second.rises in omega arith;
    asked = Hears-then s.heard.asks t.heard.asks u.heard.asks asks asks' first.asked second.asked;
    quiet = second.quiet ∙ ap (λ (h : Heard). record h { reports = u.heard.reports; asks = u.heard.asks }) first.quiet;
  }
    where
      has_on : (h : ℕ) → IsTrue (has_height t.held.certs.held h) → IsTrue (has_height u.held.certs.held h)
      has_on h there = let (v, is) = value-from_has_height t.held.certs.held h there in has_height-from_value u.held.certs.held h v (second.kept_certs h v is)

  -- ONE ACT

  any_found : (p : At Finalization → Bool) (xs : List (At Finalization)) → list_any p xs ≡ true → (y : At Finalization) × Contains xs y × (p y ≡ true)
  any_found p [] is = absurd (let no : false ≡ true = is in cc)
  any_found p (x ∷ xs) is = by (p x) refl is (any_found p xs)
    where
      by : (c : Bool) → p x ≡ c → (c || list_any p xs) ≡ true → (list_any p xs ≡ true → (y : At Finalization) × Contains xs y × (p y ≡ true)) → (y : At Finalization) × Contains (x ∷ xs) y × (p y ≡ true)
      by true here any rest = (x, (zero, omega arith, refl), here)
      by false here any rest = let (y, there, passes) = rest any in (y, (suc there.0, (let a = there.1 in omega arith), there.2), passes)

  -- where a certificate is put it stands there, or its digest elsewhere
  placed : (ignored : Bool) (old new : List (At Finalization)) (x : At Finalization) → is_certified inner old x.height (inner x.value.payload) ≡ ignored → PutIn ignored old x new
      → IsTrue (has_height new x.height) ⊎ ((y : At Finalization) × Contains new y × (inner y.value.payload ≡ inner x.value.payload))
  placed false old new x free put = inl (stored_height false old x new (λ no. absurd (let is : false ≡ true = no in cc)) put)
  placed true old new x taken put = by (has_height old x.height) refl taken
    where
      by : (c : Bool) → has_height old x.height ≡ c → (c || list_any (λ y. bytes_eq (inner y.value.payload) (inner x.value.payload)) old) ≡ true
          → IsTrue (has_height new x.height) ⊎ ((y : At Finalization) × Contains new y × (inner y.value.payload ≡ inner x.value.payload))
      by true there any = inl (subst (λ xs. IsTrue (has_height xs x.height)) (sym put) there)
      by false there any = let (y, has, same) = any_found (λ z. bytes_eq (inner z.value.payload) (inner x.value.payload)) old any in
          inr (y, subst (λ xs. Contains xs y) (sym put) has, bytes_same (inner y.value.payload) (inner x.value.payload) same)

  put_from : {T : Type 0} (ignored : Bool) (old new : List (At T)) (x y : At T) → PutIn ignored old x new → Contains new y → Contains old y ⊎ Contains (x ∷ []) y
  put_from true old new x y put has = inl (subst (λ xs. Contains xs y) put has)
  put_from false old new x y put has = Contains-append_cases old (x ∷ []) y (subst (λ xs. Contains xs y) put has)

  put_on : {T : Type 0} (ignored : Bool) (old new : List (At T)) (x y : At T) → PutIn ignored old x new → Contains old y → Contains new y
  put_on true old new x y put has = subst (λ xs. Contains xs y) (sym put) has
  put_on false old new x y put has = subst (λ xs. Contains xs y) (sym put) (Contains-append_left old (x ∷ []) y has)

  module _ (s t : Scene) where
    -- the application, the resolver and the callers hear nothing
    abbrev Unheard : Type 0
    Unheard = t ≡ record s { held = t.held }

    stored_same : (same : Unheard) → (t.life ≡ record s.life { tip = t.life.tip }) × (t.heard ≡ record s.heard { reports = t.heard.reports; asks = t.heard.asks })
    stored_same same = subst (λ (x : Scene). (x.life ≡ record s.life { tip = x.life.tip }) × (x.heard ≡ record s.heard { reports = x.heard.reports; asks = x.heard.asks })) (sym same) (refl, refl)

    Row-store : (f : Finalization) (b : Block) → IsDone inner (stores (store f b)) s t → Row (b ∷ []) (at_height b.height f ∷ []) [] [] s t
    Row-store f b (is, joins, law, same) = record {
      grew = λ start all before within. joins start all before (record { blocks = within.blocks; certs = within.certs; cached = within.cached; prunes = within.prunes; pairs = within.pairs; blocks_from = within.blocks_from; certs_from = within.certs_from });
      lawful = λ before. law;
      blocks = is.blocks.held;
      kept_blocks = held_kept _ s.held.blocks.held (at_own_height b) t.held.blocks.held is.blocks.held;
      kept_certs = held_kept _ s.held.certs.held (at_height b.height f) t.held.certs.held is.certs.held;
      sure_blocks = is.blocks.sure;
      sure_certs = is.certs.sure;
      certs_from = λ x has. put_from _ s.held.certs.held t.held.certs.held (at_height b.height f) x is.certs.held has;
      certs_placed = λ x has. subst (λ (y : At Finalization). IsTrue (has_height t.held.certs.held y.height) ⊎ ((z : At Finalization) × Contains t.held.certs.held z × (inner z.value.payload ≡ inner y.value.payload))) (only_one (at_height b.height f) x has)
          (placed _ s.held.certs.held t.held.certs.held (at_height b.height f) refl is.certs.held);
      certs_on = λ x has. put_on _ s.held.certs.held t.held.certs.held (at_height b.height f) x is.certs.held has;
      writes = ap (λ h. h.writes) is.same;
      same = is.same ∙ ap (λ w. record s.held { blocks = t.held.blocks; certs = t.held.certs; writes = w; watches = t.held.watches }) (sym (ap (λ h. h.writes) is.same));
      life = (stored_same same).0;
      standing = ap (λ (x : Scene). x.standing) same;
      tips = [];
      told = subst (λ (x : Scene). Hears s.heard.reports [] x.heard.reports) (sym same) (Hears-nothing s.heard.reports);
      are_tips = tt;
      rise = ap (λ (x : Scene). x.life.tip) same;
      tips_chain = tt;
      reaches = λ h has. absurd (let low : has.0 < 0 = has.1 in omega arith);
      rises = let k : t.life.tip ≡ s.life.tip = ap (λ (x : Scene). x.life.tip) same in omega arith;
      asked = subst (λ (x : Scene). Hears s.heard.asks [] x.heard.asks) (sym same) (Hears-nothing s.heard.asks);
      quiet = (stored_same same).1;
    }

    Row-store_block : (b : Block) → IsDone inner (stores (store_block b)) s t → Row (b ∷ []) [] [] [] s t
    Row-store_block b (is, joins, law, same) = record {
      grew = λ start all before within. joins start all before (record { blocks = within.blocks; certs = within.certs; cached = within.cached; prunes = within.prunes; pairs = within.pairs; blocks_from = within.blocks_from; certs_from = within.certs_from });
      lawful = λ before. law;
      blocks = is.blocks.held;
      kept_blocks = held_kept _ s.held.blocks.held (at_own_height b) t.held.blocks.held is.blocks.held;
      kept_certs = λ h v at. ap (λ x. value_at x.certs.held h) is.same ∙ at;
      sure_blocks = is.blocks.sure;
      sure_certs = ap (λ h. h.certs.sure) is.same;
      certs_from = λ x has. inl (subst (λ h. Contains h.certs.held x) is.same has);
      certs_placed = λ x has. absurd (let low : has.0 < 0 = has.1 in omega arith);
      certs_on = λ x has. subst (λ h. Contains h.certs.held x) (sym is.same) has;
      writes = ap (λ h. h.writes) is.same;
      same = is.same ∙ (ap (λ w. record s.held { blocks = t.held.blocks; writes = w; watches = t.held.watches }) (sym (ap (λ h. h.writes) is.same))
          ∙ ap (λ c. record s.held { blocks = t.held.blocks; certs = c; writes = t.held.writes; watches = t.held.watches }) (sym (ap (λ h. h.certs) is.same)));
      life = (stored_same same).0;
      standing = ap (λ (x : Scene). x.standing) same;
      tips = [];
      told = subst (λ (x : Scene). Hears s.heard.reports [] x.heard.reports) (sym same) (Hears-nothing s.heard.reports);
      are_tips = tt;
      rise = ap (λ (x : Scene). x.life.tip) same;
      tips_chain = tt;
      reaches = λ h has. absurd (let low : has.0 < 0 = has.1 in omega arith);
      rises = let k : t.life.tip ≡ s.life.tip = ap (λ (x : Scene). x.life.tip) same in omega arith;
      asked = subst (λ (x : Scene). Hears s.heard.asks [] x.heard.asks) (sym same) (Hears-nothing s.heard.asks);
      quiet = (stored_same same).1;
    }

    held_still : t.held ≡ s.held → t.held ≡ record s.held { watches = t.held.watches }
    held_still is = is ∙ ap (λ w. record s.held { watches = w }) (sym (ap (λ h. h.watches) is))

    grew_still : t.held ≡ s.held → (start : Held) (all : Written) → Grew start all s.held → Grew start all t.held
    grew_still is start all before = subst (Grew start all) (sym is) before

    tip_high : (tip h : ℕ) → (h ≤ risen_to tip h) × (tip ≤ risen_to tip h)
    tip_high tip h = by (nat_lt tip h) refl
      where
        by : (c : Bool) → nat_lt tip h ≡ c → (h ≤ cond c h tip) × (tip ≤ cond c h tip)
        by true above = (omega arith, grind (arith, nat_tests))
        by false low = (grind (arith, nat_tests), omega arith)

    Row-tell : (r : Round) (h : ℕ) (d : List ℕ) → IsFinal chain r h → digest_at chain h ≡ Some d → IsDone inner (says (tell r h d)) s t → Row [] [] (h ∷ []) [] s t
    Row-tell r h d final named (told, same) =
        let held = ap (λ (x : Scene). x.held) same in
        let tip = ap (λ (x : Scene). x.life.tip) same in
        still s t (h ∷ []) [] (grew_still held) (λ law. subst AreLawful (sym held) law) (held_still held)
        (subst (λ (x : Scene). x.life ≡ record s.life { tip = x.life.tip }) (sym same) refl) (ap (λ (x : Scene). x.standing) same) (tips_above s.life.tip r h d) told
        (tips_above-tips s.life.tip r h d) (subst (TipsFrom s.life.tip (tips_above s.life.tip r h d)) (sym tip) (tips_above-rise s.life.tip r h d)) (tips_above-chain chain s.life.tip r h d final named)
        (λ k has. subst (λ j. k ≤ j) (sym tip) (subst (λ j. j ≤ risen_to s.life.tip h) (only_one h k has) (tip_high s.life.tip h).0)) (subst (λ j. s.life.tip ≤ j) (sym tip) (tip_high s.life.tip h).1)
        (subst (λ (x : Scene). Hears s.heard.asks [] x.heard.asks) (sym same) (Hears-nothing s.heard.asks))
        (subst (λ (x : Scene). x.heard ≡ record s.heard { reports = x.heard.reports; asks = x.heard.asks }) (sym same) refl)

    Row-ask : (calls : List Call) → IsDone inner (says (ask calls)) s t → Row [] [] [] calls s t
    Row-ask calls (asked, same) =
        let held = ap (λ (x : Scene). x.held) same in
        let tip = ap (λ (x : Scene). x.life.tip) same in
        still s t [] calls (grew_still held) (λ law. subst AreLawful (sym held) law) (held_still held)
        (subst (λ (x : Scene). x.life ≡ record s.life { tip = x.life.tip }) (sym same) refl) (ap (λ (x : Scene). x.standing) same) []
        (subst (λ (x : Scene). Hears s.heard.reports [] x.heard.reports) (sym same) (Hears-nothing s.heard.reports)) tt tip tt
        (λ k has. absurd (let low : has.0 < 0 = has.1 in omega arith)) (let k : t.life.tip ≡ s.life.tip = tip in omega arith) asked
        (subst (λ (x : Scene). x.heard ≡ record s.heard { reports = x.heard.reports; asks = x.heard.asks }) (sym same) refl)

  -- A ROW

  pub Row-ran : (acts : List Act) (s t : Scene) → AllByRecursion IsPassAct acts → AllByRecursion (TellsFinal chain) acts → RunsActs inner s acts t → Row (row_blocks acts) (row_certs acts) (row_tells acts) (row_asks acts) s t
  Row-ran [] s t are final reads = Row-read s t reads
  Row-ran (stores (store f b) ∷ acts) s t are final (mid, after, reads, did, runs) =
      Row-then (b ∷ []) _ (at_height b.height f ∷ []) _ [] _ [] _ s after t (Row-then [] (b ∷ []) [] (at_height b.height f ∷ []) [] [] [] [] s mid after (Row-read s mid reads) (Row-store mid after f b did)) (Row-ran acts after t are.1 final.1 runs)
  Row-ran (stores (store_block b) ∷ acts) s t are final (mid, after, reads, did, runs) =
      Row-then (b ∷ []) _ [] _ [] _ [] _ s after t (Row-then [] (b ∷ []) [] [] [] [] [] [] s mid after (Row-read s mid reads) (Row-store_block mid after b did)) (Row-ran acts after t are.1 final.1 runs)
  Row-ran (says (tell r h d) ∷ acts) s t are final (mid, after, reads, did, runs) =
      Row-then [] _ [] _ (h ∷ []) _ [] _ s after t (Row-then [] [] [] [] [] (h ∷ []) [] [] s mid after (Row-read s mid reads) (Row-tell mid after r h d final.0.0 final.0.1 did)) (Row-ran acts after t are.1 final.1 runs)
  Row-ran (says (ask calls) ∷ acts) s t are final (mid, after, reads, did, runs) =
      Row-then [] _ [] _ [] _ calls _ s after t (Row-then [] [] [] [] [] [] [] calls s mid after (Row-read s mid reads) (Row-ask mid after calls did)) (Row-ran acts after t are.1 final.1 runs)
  Row-ran _ s t are final runs = absurd are.0
