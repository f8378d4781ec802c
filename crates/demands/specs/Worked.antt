-- The worked example of document 01, whole: the bytes that are read, and the characters that are printed.
use Rattle.std.specs.Prelude.{ℕ, List, [], ◌∷◌, ◌++◌, ◌≡◌}
use Rattle.listing.specs.Run.{listed}

-- "Records `07000013 07000140 07000101 01020383 0102000C 01020303 01020408 01020101 02020047 08000000 00020200 00020000 00020500 08000000 07000020
-- 00090000`"
abbrev pub records : List ℕ
records =
    0x07 ∷ 0x00 ∷ 0x00 ∷ 0x13
    ∷ 0x07 ∷ 0x00 ∷ 0x01 ∷ 0x40
    ∷ 0x07 ∷ 0x00 ∷ 0x01 ∷ 0x01
    ∷ 0x01 ∷ 0x02 ∷ 0x03 ∷ 0x83
    ∷ 0x01 ∷ 0x02 ∷ 0x00 ∷ 0x0C
    ∷ 0x01 ∷ 0x02 ∷ 0x03 ∷ 0x03
    ∷ 0x01 ∷ 0x02 ∷ 0x04 ∷ 0x08
    ∷ 0x01 ∷ 0x02 ∷ 0x01 ∷ 0x01
    ∷ 0x02 ∷ 0x02 ∷ 0x00 ∷ 0x47
    ∷ 0x08 ∷ 0x00 ∷ 0x00 ∷ 0x00
    ∷ 0x00 ∷ 0x02 ∷ 0x02 ∷ 0x00
    ∷ 0x00 ∷ 0x02 ∷ 0x00 ∷ 0x00
    ∷ 0x00 ∷ 0x02 ∷ 0x05 ∷ 0x00
    ∷ 0x08 ∷ 0x00 ∷ 0x00 ∷ 0x00
    ∷ 0x07 ∷ 0x00 ∷ 0x00 ∷ 0x20
    ∷ 0x00 ∷ 0x09 ∷ 0x00 ∷ 0x00
    ∷ []

-- the characters of the figures, by their codes
abbrev pub c0 : ℕ
c0 = 48

abbrev pub c1 : ℕ
c1 = 49

abbrev pub c2 : ℕ
c2 = 50

abbrev pub c3 : ℕ
c3 = 51

abbrev pub c4 : ℕ
c4 = 52

abbrev pub c5 : ℕ
c5 = 53

abbrev pub c6 : ℕ
c6 = 54

abbrev pub c7 : ℕ
c7 = 55

abbrev pub c8 : ℕ
c8 = 56

abbrev pub c9 : ℕ
c9 = 57

abbrev pub c_f : ℕ
c_f = 70

-- "record number in decimal from 0, refusal number (0 for none), answer in three hex capitals, output after the event; single spaces"
abbrev pub row : List ℕ → ℕ → ℕ → ℕ → ℕ → ℕ → List ℕ
row number refusal high middle low output = number ++ (32 ∷ refusal ∷ 32 ∷ high ∷ middle ∷ low ∷ 32 ∷ output ∷ 10 ∷ [])

-- "print `N 0 000 0` for N = 0 to 7, then `8 0 000 1`, `9 0 042 0`, `10 0 004 0`, `11 0 047 0`, `12 0 060 0`, `13 0 147 0`, `14 0 000 0`,
-- `15 1 FFF 0`."
abbrev pub rows : List (List ℕ)
rows =
    (row (c0 ∷ []) c0 c0 c0 c0 c0)
    ∷ (row (c1 ∷ []) c0 c0 c0 c0 c0)
    ∷ (row (c2 ∷ []) c0 c0 c0 c0 c0)
    ∷ (row (c3 ∷ []) c0 c0 c0 c0 c0)
    ∷ (row (c4 ∷ []) c0 c0 c0 c0 c0)
    ∷ (row (c5 ∷ []) c0 c0 c0 c0 c0)
    ∷ (row (c6 ∷ []) c0 c0 c0 c0 c0)
    ∷ (row (c7 ∷ []) c0 c0 c0 c0 c0)
    ∷ (row (c8 ∷ []) c0 c0 c0 c0 c1)
    ∷ (row (c9 ∷ []) c0 c0 c4 c2 c0)
    ∷ (row (c1 ∷ c0 ∷ []) c0 c0 c0 c4 c0)
    ∷ (row (c1 ∷ c1 ∷ []) c0 c0 c4 c7 c0)
    ∷ (row (c1 ∷ c2 ∷ []) c0 c0 c6 c0 c0)
    ∷ (row (c1 ∷ c3 ∷ []) c0 c1 c4 c7 c0)
    ∷ (row (c1 ∷ c4 ∷ []) c0 c0 c0 c0 c0)
    ∷ (row (c1 ∷ c5 ∷ []) c1 c_f c_f c_f c0)
    ∷ []

-- one after the other
abbrev pub printed : List (List ℕ) → List ℕ
printed [] = []
printed (r ∷ rs) = r ++ printed rs

abbrev pub Worked : Type 0
Worked = listed records ≡ printed rows
