-- The digests of the small chain's blocks 0 and 1.
use Rattle.std.proofs.Common.{◌≡◌, ℕ, List, [], ◌∷◌, ◌++◌, replicate, refl}
use Rattle.std.specs.Int.{w64, to_be_bytes}
use Rattle.sha2.specs.Sha256.{sha256, digest_bytes, hash_after, compress, rounds, schedule, first_words}

abbrev pub digest_0 : List ℕ
digest_0 = 23 ∷ 176 ∷ 118 ∷ 31 ∷ 135 ∷ 176 ∷ 129 ∷ 213 ∷ 207 ∷ 16 ∷ 117 ∷ 124 ∷ 204 ∷ 137 ∷ 241 ∷ 43 ∷ 227 ∷ 85 ∷ 199 ∷ 14 ∷ 46 ∷ 41 ∷ 223 ∷ 40 ∷ 139 ∷ 101 ∷ 179 ∷ 7 ∷ 16 ∷ 220 ∷ 188 ∷ 209 ∷ []

abbrev pub digest_1 : List ℕ
digest_1 = 206 ∷ 50 ∷ 198 ∷ 118 ∷ 66 ∷ 229 ∷ 19 ∷ 94 ∷ 67 ∷ 8 ∷ 85 ∷ 160 ∷ 130 ∷ 86 ∷ 143 ∷ 59 ∷ 119 ∷ 78 ∷ 225 ∷ 239 ∷ 194 ∷ 59 ∷ 159 ∷ 45 ∷ 27 ∷ 193 ∷ 60 ∷ 63 ∷ 101 ∷ 206 ∷ 135 ∷ 58 ∷ []

pub digest_0_is : digest_0 ≡ sha256 (replicate 32 0 ++ to_be_bytes w64 0 ++ to_be_bytes w64 0)
unfolding sha256 digest_bytes hash_after compress rounds schedule first_words
digest_0_is = refl

pub digest_1_is : digest_1 ≡ sha256 (digest_0 ++ to_be_bytes w64 1 ++ to_be_bytes w64 0)
unfolding sha256 digest_bytes hash_after compress rounds schedule first_words
digest_1_is = refl
