-- What a file stands for is one, by any version that tells lengths apart: no record's bytes begin another's, and no batch's.
use Rattle.std.proofs.Common.{List, [], ap, append_assoc, arith, inl, inr, length, length-append, refl, sym, take, ℕ, ◌++◌, ◌+◌, ◌<◌, ◌∙◌, ◌∷◌, ◌≡◌, ◌≢◌}
use Rattle.std.proofs.lemmas.List.{append-nil, append_cancel_left, take-append-le}
use Rattle.std.specs.List.{AllByRecursion}
use Rattle.mar_types.specs.DigestLemmas.{same_front}
use Rattle.mar_journal.specs.MetaLemmas.{tail_of}
use Rattle.mar_journal.specs.Framing.{IsBatch, IsDamaged, IsJournal, IsNew, IsNoBatch, IsVersion, Stands, Version, behind_gate, body, frames, joined}

cons_head : {T : Type 0} (x y : T) (xs ys : List T) → x ∷ xs ≡ y ∷ ys → x ≡ y
cons_head x y xs ys e = cc

-- bytes that aren't empty, as the first and the others
pub record IsSplit (bytes : List ℕ) : Type 0 where
  pub first : ℕ
  pub others : List ℕ
  pub is : bytes ≡ first ∷ others

pub split : (front : List ℕ) (b : ℕ) (rest : List ℕ) → IsSplit (front ++ b ∷ rest)
split [] b rest = record { first = b; others = rest; is = refl }
split (x ∷ front) b rest = record { first = x; others = front ++ b ∷ rest; is = refl }

pub joined-push : {R : Type 0} (bs : List (List R)) (b : List R) → joined (bs ++ b ∷ []) ≡ joined bs ++ b
joined-push [] b = append-nil b
joined-push (c ∷ bs) b = ap (λ l. c ++ l) (joined-push bs b) ∙ sym (append_assoc c (joined bs) b)

-- one frame more at the end
module _ {R : Type 0} (version : Version) (spelled : R → List ℕ) where
  abbrev gated : List R → List ℕ
  gated b = behind_gate version spelled b

  abbrev all_framed : List (List R) → List ℕ
  all_framed bs = frames version spelled bs

  pub frames-push : (bs : List (List R)) (b : List R) (rest : List ℕ) → all_framed (bs ++ b ∷ []) ++ rest ≡ all_framed bs ++ 1 ∷ (gated b ++ rest)
  frames-push [] b rest = ap (λ (l : List ℕ). (1 ∷ l) ++ rest) (append-nil (gated b))
  frames-push (c ∷ bs) b rest =
      append_assoc (1 ∷ gated c) (all_framed (bs ++ b ∷ [])) rest
      ∙ ap (λ (l : List ℕ). (1 ∷ gated c) ++ l) (frames-push bs b rest)
      ∙ sym (append_assoc (1 ∷ gated c) (all_framed bs) (1 ∷ (gated b ++ rest)))

  pub length-frames-push : (bs : List (List R)) (b : List R) → length (all_framed (bs ++ b ∷ [])) ≡ length (all_framed bs) + (1 + length (gated b))
  length-frames-push bs b =
      let whole = ap length (frames-push bs b []) in
      let last = length-append (all_framed (bs ++ b ∷ [])) [] in
      omega (arith, whole, last, length-append (all_framed bs) (1 ∷ (gated b ++ [])), length-append (gated b) [])

module _ {R : Type 0} (spelled : R → List ℕ) (Valid : R → Type 0)
    (one : (r s : R) (a b : List ℕ) → Valid r → Valid s → spelled r ++ a ≡ spelled s ++ b → r ≡ s) (some : (r : R) → 0 < length (spelled r)) where
  -- the records that follow some records
  pub record Follow (records more : List R) (rest : List ℕ) : Type 0 where
    pub others : List R
    pub are : more ≡ records ++ others
    pub valid : AllByRecursion Valid others
    pub bytes_are : rest ≡ body spelled others

  pub body_follows : (rs ss : List R) (rest : List ℕ) → AllByRecursion Valid rs → AllByRecursion Valid ss → body spelled rs ++ rest ≡ body spelled ss → Follow rs ss rest
  body_follows [] ss rest v w e = record { others = ss; are = refl; valid = w; bytes_are = e }
  body_follows (r ∷ rs) [] rest v w e =
      absurd (omega (arith, some r, ap length e, length-append (spelled r ++ body spelled rs) rest, length-append (spelled r) (body spelled rs)))
  body_follows (r ∷ rs) (s ∷ ss) rest v w e =
      let whole : spelled r ++ (body spelled rs ++ rest) ≡ spelled s ++ body spelled ss = sym (append_assoc (spelled r) (body spelled rs) rest) ∙ e in
      let same : r ≡ s = one r s _ _ v.0 w.0 whole in
      let after : body spelled rs ++ rest ≡ body spelled ss = append_cancel_left (spelled r) _ _ (whole ∙ ap (λ x. spelled x ++ body spelled ss) (sym same)) in
      let more = body_follows rs ss rest v.1 w.1 after in
      let are : s ∷ ss ≡ r ∷ (rs ++ more.others) = ap (λ x. x ∷ ss) (sym same) ∙ ap (λ l. r ∷ l) more.are in
      record { others = more.others; are = are; valid = more.valid; bytes_are = more.bytes_are }

  none_follow : (rs : List R) → [] ≡ body spelled rs → rs ≡ []
  none_follow [] e = refl
  none_follow (r ∷ rs) e = absurd (omega (arith, some r, ap length e, length-append (spelled r) (body spelled rs)))

  same_body : (rs ss : List R) → AllByRecursion Valid rs → AllByRecursion Valid ss → body spelled rs ≡ body spelled ss → rs ≡ ss
  same_body rs ss v w e =
      let more = body_follows rs ss [] v w (append-nil (body spelled rs) ∙ e) in
      sym (more.are ∙ ap (λ l. rs ++ l) (none_follow more.others more.bytes_are) ∙ append-nil rs)

  pub body_some : (rs : List R) → 0 < length rs → 0 < length (body spelled rs)
  body_some [] is = is
  body_some (r ∷ rs) is = omega (arith, some r, length-append (spelled r) (body spelled rs))

  -- batches as this version frames them
  module _ (version : Version) (law : IsVersion version) where
    abbrev sized : ℕ → List ℕ
    sized n = version.sized n

    abbrev AreBatches : List (List R) → Type 0
    AreBatches bs = AllByRecursion (IsBatch version spelled Valid) bs

    abbrev behind : List R → List ℕ
    behind b = behind_gate version spelled b

    abbrev framed : List (List R) → List ℕ
    framed bs = frames version spelled bs

    -- a file that begins with the head begins with the magic
    begins : (rest file : List ℕ) → file ≡ version.head ++ rest → take 4 file ≡ version.magic
    begins rest file e = ap (λ (l : List ℕ). take 4 l) e ∙ take-append-le 4 version.head rest (omega (arith, law.placed, law.room)) ∙ law.begins

    -- the bytes of a batch, and what is behind them
    same_sizes : (b c : List R) (x y : List ℕ) → IsBatch version spelled Valid b → IsBatch version spelled Valid c → behind b ++ x ≡ behind c ++ y
        → (length (body spelled b) ≡ length (body spelled c)) × (body spelled b ++ x ≡ body spelled c ++ y)
    same_sizes b c x y is other e =
        let m = length (body spelled b) in
        let n = length (body spelled c) in
        let whole : sized m ++ (body spelled b ++ x) ≡ sized n ++ (body spelled c ++ y) = sym (append_assoc (sized m) (body spelled b) x) ∙ e ∙ append_assoc (sized n) (body spelled c) y in
        let same : sized m ≡ sized n = same_front (sized m) (sized n) _ _ (law.wide m ∙ sym (law.wide n)) whole in
        (law.apart m n is.short other.short same, append_cancel_left (sized m) _ _ (whole ∙ ap (λ f. f ++ (body spelled c ++ y)) (sym same)))

    pub same_batch : (b c : List R) (x y : List ℕ) → IsBatch version spelled Valid b → IsBatch version spelled Valid c → behind b ++ x ≡ behind c ++ y → b ≡ c
    same_batch b c x y is other e =
        let sizes = same_sizes b c x y is other e in
        same_body b c is.valid other.valid (same_front (body spelled b) (body spelled c) x y sizes.0 sizes.1)

    after_batch : (b c : List R) (x y : List ℕ) → IsBatch version spelled Valid b → IsBatch version spelled Valid c → behind b ++ x ≡ behind c ++ y → x ≡ y
    after_batch b c x y is other e = append_cancel_left (behind b) x y (e ∙ ap (λ d. behind d ++ y) (sym (same_batch b c x y is other e)))

    behind_first : (b c : List R) (bs cs : List (List R)) (x y : List ℕ) → framed (b ∷ bs) ++ x ≡ framed (c ∷ cs) ++ y
        → behind b ++ (framed bs ++ x) ≡ behind c ++ (framed cs ++ y)
    behind_first b c bs cs x y e =
        sym (append_assoc (behind b) (framed bs) x) ∙ tail_of 1 1 _ _ e ∙ append_assoc (behind c) (framed cs) y

    pub same_batches : (bs cs : List (List R)) (g h : ℕ) (x y : List ℕ) → AreBatches bs → AreBatches cs → g ≢ 1 → h ≢ 1
        → framed bs ++ g ∷ x ≡ framed cs ++ h ∷ y → bs ≡ cs
    same_batches [] [] g h x y v w shut closed e = refl
    same_batches [] (c ∷ cs) g h x y v w shut closed e = absurd (shut (cons_head g 1 _ _ e))
    same_batches (b ∷ bs) [] g h x y v w shut closed e = absurd (closed (sym (cons_head 1 h _ _ e)))
    same_batches (b ∷ bs) (c ∷ cs) g h x y v w shut closed e =
        let whole = behind_first b c bs cs (g ∷ x) (h ∷ y) e in
        let same : b ≡ c = same_batch b c _ _ v.0 w.0 whole in
        let others : bs ≡ cs = same_batches bs cs g h x y v.1 w.1 shut closed (after_batch b c _ _ v.0 w.0 whole) in
        ap (λ d. d ∷ bs) same ∙ ap (λ ds. c ∷ ds) others

    -- batches and a closed gate are no batches and an open gate with no batch behind it
    closed_or_torn : (bs cs : List (List R)) (g : ℕ) (x y : List ℕ) → AreBatches bs → AreBatches cs → g ≢ 1 → IsNoBatch version spelled Valid y
        → framed bs ++ g ∷ x ≡ framed cs ++ 1 ∷ y → ⊥
    closed_or_torn [] [] g x y v w shut torn e = shut (cons_head g 1 _ _ e)
    closed_or_torn [] (c ∷ cs) g x y v w shut torn e = shut (cons_head g 1 _ _ e)
    closed_or_torn (b ∷ bs) [] g x y v w shut torn e =
        let next = split (framed bs) g x in
        let is : y ≡ behind b ++ next.first ∷ next.others =
        sym (tail_of 1 1 _ _ e) ∙ append_assoc (behind b) (framed bs) (g ∷ x) ∙ ap (λ (l : List ℕ). behind b ++ l) next.is in
        torn b next.first next.others v.0 is
    closed_or_torn (b ∷ bs) (c ∷ cs) g x y v w shut torn e =
        let whole = behind_first b c bs cs (g ∷ x) (1 ∷ y) e in
        closed_or_torn bs cs g x y v.1 w.1 shut torn (after_batch b c _ _ v.0 w.0 whole)

    -- two open gates with no batch behind them stand at one place
    both_torn : (bs cs : List (List R)) (x y : List ℕ) → AreBatches bs → AreBatches cs → IsNoBatch version spelled Valid x → IsNoBatch version spelled Valid y
        → framed bs ++ 1 ∷ x ≡ framed cs ++ 1 ∷ y → length (framed bs) ≡ length (framed cs)
    both_torn [] [] x y v w torn other e = refl
    both_torn [] (c ∷ cs) x y v w torn other e =
        let next = split (framed cs) 1 y in
        let is : x ≡ behind c ++ next.first ∷ next.others =
        tail_of 1 1 _ _ e ∙ append_assoc (behind c) (framed cs) (1 ∷ y) ∙ ap (λ (l : List ℕ). behind c ++ l) next.is in
        absurd (torn c next.first next.others w.0 is)
    both_torn (b ∷ bs) [] x y v w torn other e =
        let next = split (framed bs) 1 x in
        let is : y ≡ behind b ++ next.first ∷ next.others =
        sym (tail_of 1 1 _ _ e) ∙ append_assoc (behind b) (framed bs) (1 ∷ x) ∙ ap (λ (l : List ℕ). behind b ++ l) next.is in
        absurd (other b next.first next.others v.0 is)
    both_torn (b ∷ bs) (c ∷ cs) x y v w torn other e =
        let whole = behind_first b c bs cs (1 ∷ x) (1 ∷ y) e in
        let same : length (behind b) ≡ length (behind c) = ap (λ d. length (behind d)) (same_batch b c _ _ v.0 w.0 whole) in
        let more = both_torn bs cs x y v.1 w.1 torn other (after_batch b c _ _ v.0 w.0 whole) in
        omega (arith, same, more, length-append (behind b) (framed bs), length-append (behind c) (framed cs))

    length-frame : (b : List R) → IsBatch version spelled Valid b → 0 < length (behind b)
    length-frame b is = omega (arith, length-append (sized (length (body spelled b))) (body spelled b), body_some b is.some)

    -- a journal of at most five bytes has no records
    new_is_empty : (rs : List R) (end : ℕ) (file : List ℕ) → IsNew file → IsJournal version spelled Valid rs end file → rs ≡ []
    new_is_empty rs end file short is = sym is.records_are ∙ ap joined (none is.batches is.good is.file_is)
      where
        none : (bs : List (List R)) → AreBatches bs → file ≡ version.head ++ (framed bs ++ is.gate ∷ is.rest) → bs ≡ []
        none [] good e = refl
        none (b ∷ bs) good e =
            let whole = length-append version.head (framed (b ∷ bs) ++ is.gate ∷ is.rest) in
            let after = length-append (framed (b ∷ bs)) (is.gate ∷ is.rest) in
            let first = length-append (behind b) (framed bs) in
            absurd (omega (arith, short, ap length e, law.placed, law.room, whole, after, first, length-frame b good.0))

    -- what a file stands for is one
    pub stands_one : (rs ss : List R) (file : List ℕ) → Stands version spelled Valid rs file → Stands version spelled Valid ss file → rs ≡ ss
    stands_one rs ss file (inl is) (inl other) = is.1 ∙ sym other.1
    stands_one rs ss file (inl is) (inr other) = is.1 ∙ sym (new_is_empty ss other.0 file is.0 other.1)
    stands_one rs ss file (inr is) (inl other) = new_is_empty rs is.0 file other.0 is.1 ∙ sym other.1
    stands_one rs ss file (inr is) (inr other) =
        let a = is.1 in
        let b = other.1 in
        let behind_head = append_cancel_left version.head _ _ (sym a.file_is ∙ b.file_is) in
        let same = same_batches a.batches b.batches a.gate b.gate a.rest b.rest a.good b.good a.shut b.shut behind_head in
        sym a.records_are ∙ ap joined same ∙ b.records_are

    -- a file that stands for records isn't damaged
    pub stands_whole : (rs : List R) (at : ℕ) (file : List ℕ) → Stands version spelled Valid rs file → IsDamaged version spelled Valid at file → ⊥
    stands_whole rs at file (inl is) damaged = omega (arith, is.0, damaged.0)
    stands_whole rs at file (inr is) (long, inl other) = other.1 (begins _ _ is.1.file_is)
    stands_whole rs at file (inr is) (long, inr torn) =
        let a = is.1 in
        closed_or_torn a.batches torn.batches a.gate a.rest torn.rest a.good torn.good a.shut torn.torn (append_cancel_left version.head _ _ (sym a.file_is ∙ torn.file_is))

    -- a file is damaged at one place
    pub one_damage : (at other : ℕ) (file : List ℕ) → IsDamaged version spelled Valid at file → IsDamaged version spelled Valid other file → at ≡ other
    one_damage at other file (long, inl first) (too, inl second) = first.0 ∙ sym second.0
    one_damage at other file (long, inl first) (too, inr torn) = absurd (first.1 (begins _ _ torn.file_is))
    one_damage at other file (long, inr torn) (too, inl second) = absurd (second.1 (begins _ _ torn.file_is))
    one_damage at other file (long, inr a) (too, inr b) =
        let behind_head = append_cancel_left version.head _ _ (sym a.file_is ∙ b.file_is) in
        let same = both_torn a.batches b.batches a.rest b.rest a.good b.good a.torn b.torn behind_head in
        a.ends ∙ ap (λ n. version.first_gate + n) same ∙ sym b.ends
