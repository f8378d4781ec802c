-- The MSR: the changes that stand, and the inputs as the channel sees them.
use Rattle.std.specs.Prelude.{ℕ, Bool, not, ◌&&◌, ◌||◌, [], ◌∷◌}
use Rattle.base.specs.Bits.{bit, bits}

-- exactly one of the two is set
abbrev pub differ : Bool → Bool → Bool
differ a b = (a && not b) || (not a && b)

-- "bits 0, 1, 3 set when CTS, DSR, DCD change; bit 2 when RI goes from active to inactive": the changes that stand, with those from the
-- inputs before to the inputs after
unfoldable pub changes_after : ℕ → ℕ → ℕ → ℕ
changes_after changes before after =
    bits
    ((bit 0 changes || differ (bit 0 before) (bit 0 after))
    ∷ (bit 1 changes || differ (bit 1 before) (bit 1 after))
    ∷ (bit 2 changes || (bit 2 before && not (bit 2 after)))
    ∷ (bit 3 changes || differ (bit 3 before) (bit 3 after))
    ∷ [])

-- "MSR: bits 4-7 CTS, DSR, RI, DCD"; bits 0-3 are the changes that stand
unfoldable pub msr_of : ℕ → ℕ → ℕ
msr_of changes inputs =
    bits
    (bit 0 changes
    ∷ bit 1 changes
    ∷ bit 2 changes
    ∷ bit 3 changes
    ∷ bit 0 inputs
    ∷ bit 1 inputs
    ∷ bit 2 inputs
    ∷ bit 3 inputs
    ∷ [])

-- "any of MSR 0-3"
unfoldable pub some_change : ℕ → Bool
some_change changes = bit 0 changes || bit 1 changes || bit 2 changes || bit 3 changes
