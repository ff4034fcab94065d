-- The timestamp of a block is the number behind its parent and height.
use Rattle.std.proofs.Common.{◌≡◌, ℕ, ◌+◌, ◌++◌, Some, [], ap, drop, length, length-append, sym, ◌∙◌}
use Rattle.std.proofs.Math.Seq.{drop-append_seam}
use Rattle.std.proofs.lemmas.List.{append-nil}
use Rattle.mar_types.specs.Varint.{IsNumber, read_varint, varint}
use Rattle.mar_cert.specs.Block.{Block, IsBlock}
use Rattle.mar_cert.specs.ReadBack.{read_varint-back}
use Rattle.mar_ledger.specs.Books.{entry_at}
use Rattle.mar_ledger.specs.Entries.{entry_of, first_number, timestamp_in}

read_whole : (n : ℕ) → IsNumber n → read_varint (varint n) ≡ Some (n, [])
read_whole n fits = ap read_varint (sym (append-nil (varint n))) ∙ read_varint-back n [] fits

pub timestamp_is : (b : Block) (t : ℕ) → IsNumber t → b.encoded ≡ b.parent ++ varint b.height ++ varint t → timestamp_in b ≡ t
timestamp_is b t fits spelled =
    let front = b.parent ++ varint b.height in
    ap (λ bytes. first_number (read_varint (drop (length b.parent + length (varint b.height)) bytes))) spelled
    ∙ ap (λ n. first_number (read_varint (drop n (front ++ varint t)))) (sym (length-append b.parent (varint b.height)))
    ∙ ap (λ bytes. first_number (read_varint bytes)) (drop-append_seam front (varint t))
    ∙ ap first_number (read_whole t fits)

pub entry_is : (b : Block) (is : IsBlock b) → entry_of b ≡ entry_at is.timestamp
entry_is b is = ap entry_at (timestamp_is b is.timestamp is.timestamp_fits is.bytes)
