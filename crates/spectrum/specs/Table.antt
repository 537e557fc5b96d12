-- The cosines and sines that src/turns.rt holds, in units of 2 ^ -61. A reader of the promise need not read this. Definitions only.
use Rattle.std.specs.Prelude.{ℕ, ◌-◌, ◌%◌, ◌^◌, cond, List, [], ◌∷◌, leb, get_or}
use Rattle.spectrum.specs.Difference.{Difference, whole, opposite}

-- the unit of the table, and what is added to every word
abbrev pub unit : ℕ
unit = 2 ^ 61

-- cos (2 pi j / 128) for j from 0 to 32
abbrev pub cosines : List ℕ
cosines =
    0x2000000000000000
    ∷ 0x1ff621e3796d7de4
    ∷ 0x1fd88da3d125259e
    ∷ 0x1fa7557f08a516a1
    ∷ 0x1f6297cff75cb02b
    ∷ 0x1f0a7efb9230d72a
    ∷ 0x1e9f4156c62dda5e
    ∷ 0x1e212104f686e4c0
    ∷ 0x1d906bcf328d4629
    ∷ 0x1ced7af43cc772f1
    ∷ 0x1c38b2f180bdb0d2
    ∷ 0x1b728345196e3d91
    ∷ 0x1a9b66290ea1a303
    ∷ 0x19b3e047f38740b4
    ∷ 0x18bc806b151740b5
    ∷ 0x17b5df226aafaede
    ∷ 0x16a09e667f3bcc91
    ∷ 0x157d69348cec9fa3
    ∷ 0x144cf325091dd618
    ∷ 0x130ff7fce17034e1
    ∷ 0x11c73b39ae68c86d
    ∷ 0x1073879922ffed97
    ∷ 0xf15ae9c037b1d8f
    ∷ 0xdae8804f0ae6016
    ∷ 0xc3ef1535754b169
    ∷ 0xac7cd3ad58fee7f
    ∷ 0x94a03176acf82d4
    ∷ 0x7c67e5ec857c6ac
    ∷ 0x63e2e0f1a6982ae
    ∷ 0x4b2041ba3984e89
    ∷ 0x322f4d78536857c
    ∷ 0x191f65f10dd813e
    ∷ 0x0
    ∷ []

-- the entry j of them
unfoldable pub entry : ℕ → ℕ
entry j = get_or cosines j 0

-- by symmetry the cosine of every j below 128
unfoldable pub cosine_below : ℕ → Difference
cosine_below j =
    cond (leb j 32) (whole (entry j)) (cond (leb j 64) (opposite (whole (entry (64 - j)))) (cond (leb j 96) (opposite (whole (entry (j - 64)))) (whole (entry (128 - j)))))

-- and the sine
unfoldable pub sine_below : ℕ → Difference
sine_below j =
    cond (leb j 32) (whole (entry (32 - j))) (cond (leb j 64) (whole (entry (j - 32))) (cond (leb j 96) (opposite (whole (entry (96 - j)))) (opposite (whole (entry (j - 96))))))

-- cos (2 pi j / 128) and sin (2 pi j / 128) for every j, in units of 2 ^ -61
abbrev pub cosine : ℕ → Difference
cosine j = cosine_below (j % 128)

abbrev pub sine : ℕ → Difference
sine j = sine_below (j % 128)
