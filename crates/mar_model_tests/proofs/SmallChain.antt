-- Blocks 0 and 1, a finalization of block 1, settings, and the chain of the two: what the instances are made of.
use Rattle.std.proofs.Common.{ℕ, List, [], ◌∷◌, ◌++◌, replicate}
use Rattle.mar_types.specs.Round.{Round}
use Rattle.mar_cert.specs.Block.{Block}
use Rattle.mar_cert.specs.Finalization.{Finalization}
use Rattle.mar_model.specs.Chain.{Chain}
use Rattle.mar_model.specs.Config.{Config}
use Rattle.mar_script.specs.Script.{Settings, config_of}
use Rattle.mar_model_tests.proofs.SmallDigests.{digest_0, digest_1}

abbrev pub d0 : List ℕ
d0 = digest_0

abbrev pub d1 : List ℕ
d1 = digest_1

abbrev pub b0 : Block
b0 = record { digest = d0; commitment = d0; height = 0; parent = replicate 32 0; parent_commitment = replicate 32 0; encoded = replicate 34 0 }

abbrev pub b1 : Block
b1 = record { digest = d1; commitment = d1; height = 1; parent = d0; parent_commitment = d0; encoded = d0 ++ 1 ∷ 0 ∷ [] }

abbrev pub r1 : Round
r1 = record { epoch = 0; view = 1 }

abbrev pub tag_0 : List ℕ
tag_0 = 121 ∷ 222 ∷ 101 ∷ 186 ∷ 252 ∷ 174 ∷ 47 ∷ 30 ∷ 21 ∷ 249 ∷ 193 ∷ 246 ∷ 157 ∷ 107 ∷ 18 ∷ 244 ∷ 125 ∷ 128 ∷ 151 ∷ 88 ∷ 238 ∷ 13 ∷ 67 ∷ 216 ∷ 69 ∷ 6 ∷ 148 ∷ 195 ∷ 148 ∷ 92 ∷ 131 ∷ 214 ∷ []

abbrev pub tag_1 : List ℕ
tag_1 = 30 ∷ 144 ∷ 59 ∷ 173 ∷ 230 ∷ 85 ∷ 13 ∷ 42 ∷ 223 ∷ 60 ∷ 215 ∷ 139 ∷ 237 ∷ 153 ∷ 108 ∷ 137 ∷ 122 ∷ 164 ∷ 183 ∷ 126 ∷ 134 ∷ 237 ∷ 195 ∷ 151 ∷ 11 ∷ 96 ∷ 165 ∷ 91 ∷ 12 ∷ 64 ∷ 208 ∷ 142 ∷ []

abbrev pub tag_2 : List ℕ
tag_2 = 202 ∷ 115 ∷ 207 ∷ 148 ∷ 17 ∷ 201 ∷ 37 ∷ 131 ∷ 195 ∷ 112 ∷ 34 ∷ 62 ∷ 43 ∷ 122 ∷ 199 ∷ 5 ∷ 119 ∷ 40 ∷ 205 ∷ 47 ∷ 149 ∷ 142 ∷ 2 ∷ 142 ∷ 253 ∷ 223 ∷ 213 ∷ 237 ∷ 157 ∷ 164 ∷ 120 ∷ 246 ∷ []

abbrev pub f1 : Finalization
f1 = record { round = r1; parent = 0; payload = d1; certificate = 3 ∷ 0 ∷ tag_0 ++ 1 ∷ tag_1 ++ 2 ∷ tag_2 }

abbrev pub chain : Chain
chain = record { blocks = b0 ∷ b1 ∷ []; finals = record { round = r1; height = 1 } ∷ [] }

-- `config 4 10 2 4 5 8 0 100`
abbrev pub settings : Settings
settings = record { members = 4; epoch_length = 10; window = 2; max_repair = 4; retention = 5; capacity = 8; first_epoch = 0; last_epoch = 100 }

abbrev pub config : Config
config = config_of settings
