-- Blocks with a digest of their own: no spelling begins another, and it tells the digest.
use Rattle.std.proofs.Common.{List, ap, append_assoc, arith, length, length-append, sym, ℕ, ◌*◌, ◌++◌, ◌+◌, ◌∙◌, ◌≡◌, ◌≤◌}
use Rattle.mar_types.specs.Codec.{IsUnambiguous, Joined}
use Rattle.mar_types.specs.CodecLemmas.{joined_unambiguous}
use Rattle.mar_types.specs.Varint.{IsVarint, varint}
use Rattle.mar_types.specs.VarintLemmas.{length-varint, varint_unambiguous}
use Rattle.mar_cert.specs.SignersLemmas.{same_rest}
use Rattle.mar_block.specs.MockBlock.{SpellsMock, mock_bytes}

pub mock_unambiguous : (Context Digest : List ℕ → Type 0) → IsUnambiguous Context → IsUnambiguous Digest → IsUnambiguous (SpellsMock Context Digest)
mock_unambiguous Context Digest contexts digests =
    joined_unambiguous Context (Joined Digest (Joined IsVarint (Joined IsVarint Digest))) contexts
    (joined_unambiguous Digest (Joined IsVarint (Joined IsVarint Digest)) digests
    (joined_unambiguous IsVarint (Joined IsVarint Digest) varint_unambiguous (joined_unambiguous IsVarint Digest varint_unambiguous digests)))

-- lists of one length that end in parts of one length
same_end : (front other end end' : List ℕ) → length end ≡ length end' → front ++ end ≡ other ++ end' → end ≡ end'
same_end front other end end' long e = (same_rest front other end end' fronts e).1
  where
    fronts : length front ≡ length other
    fronts = omega (arith, long, ap length e, length-append front end, length-append other end')

regrouped : (context parent digest : List ℕ) (height timestamp : ℕ) → mock_bytes context parent height timestamp digest ≡ (context ++ (parent ++ (varint height ++ varint timestamp))) ++ digest
regrouped context parent digest height timestamp =
    ap (λ xs. context ++ (parent ++ xs)) (sym (append_assoc (varint height) (varint timestamp) digest))
    ∙ ap (λ xs. context ++ xs) (sym (append_assoc parent (varint height ++ varint timestamp) digest))
    ∙ sym (append_assoc context (parent ++ (varint height ++ varint timestamp)) digest)

-- two spellings that are one end in one digest
pub mock_identified : (context parent digest context' parent' digest' : List ℕ) (height timestamp height' timestamp' : ℕ) (bytes bytes' : List ℕ) → length digest ≡ length digest' → digest ≡ bytes → digest' ≡ bytes'
    → mock_bytes context parent height timestamp digest ≡ mock_bytes context' parent' height' timestamp' digest' → bytes ≡ bytes'
mock_identified context parent digest context' parent' digest' height timestamp height' timestamp' bytes bytes' long is is' e =
    sym is
    ∙ same_end (context ++ (parent ++ (varint height ++ varint timestamp))) (context' ++ (parent' ++ (varint height' ++ varint timestamp'))) digest digest' long
    (sym (regrouped context parent digest height timestamp) ∙ e ∙ regrouped context' parent' digest' height' timestamp')
    ∙ is'

-- the spelling is no longer than its parts
pub length-mock_bytes : (context parent : List ℕ) (height timestamp : ℕ) (digest : List ℕ) (most size : ℕ) → length context ≤ most → length parent ≡ size → length digest ≡ size
    → length (mock_bytes context parent height timestamp digest) ≤ most + 2 * size + 20
length-mock_bytes context parent height timestamp digest most size short long also =
    omega (arith, short, long, also, length-append context (parent ++ (varint height ++ (varint timestamp ++ digest))), length-append parent (varint height ++ (varint timestamp ++ digest)), length-append (varint height) (varint timestamp ++ digest), length-append (varint timestamp) digest, length-varint height, length-varint timestamp)
