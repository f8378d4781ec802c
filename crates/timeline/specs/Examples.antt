-- A timeline by examples: that of lesson 1, in which seat 2 alone is in use, about the G that arrives.
use Rattle.std.specs.Prelude.{ℕ, true, false, List, [], ◌∷◌, ◌++◌, ◌≡◌, replicate, set}
use Prim.Native.String.{String}
use Rattle.text.specs.Quoted.{quoted}
use Rattle.timeline.specs.Dump.{line_feed, whole_head, first_words, step_words, time}
use Rattle.sight.specs.declared.Look.{Look}
use Rattle.sight.specs.declared.Sight.{Sight}

-- lines, each with its end
abbrev pub text : List String → List ℕ
text [] = []
text (line ∷ lines) = quoted line ++ (line_feed ++ text lines)

-- ---- what is seen

-- nothing received, nothing to send
abbrev pub idle : Look
idle = record { lsr = 0x60; queued = 0 }

abbrev pub at_power_up : Sight
at_power_up = record { output = false; levels = 0; requests = 0; service = 0; mask = 0; seats = replicate 8 idle }

-- seat 2 holds the G
abbrev pub with_the_g : List Look
with_the_g = set (replicate 8 idle) 2 (record { lsr = 0x61; queued = 1 })

-- behind record 8, it calls; behind record 9, it is served; behind record 11, the G is taken
abbrev pub calling : Sight
calling = record { output = true; levels = 0x04; requests = 0x04; service = 0; mask = 0; seats = with_the_g }

abbrev pub served : Sight
served = record { output = false; levels = 0x04; requests = 0; service = 0x04; mask = 0; seats = with_the_g }

abbrev pub taken : Sight
taken = record { output = false; levels = 0; requests = 0; service = 0x04; mask = 0; seats = replicate 8 idle }

-- sixteen in the queue of seat 7, and lines 0 and 7 masked, of which 7 calls
abbrev pub masked : Sight
masked =
    record { output = false; levels = 0x80; requests = 0x80; service = 0; mask = 0x81; seats = set (replicate 8 idle) 7 (record { lsr = 0xE3; queued = 16 }) }

-- ---- what is told

pub record Examples : Type 0 where
  pub head :
      whole_head 0x04
      ≡ text
      ("$version hailstoat $end"
      ∷ "$timescale 1 us $end"
      ∷ "$scope module bench $end"
      ∷ "$var wire 1 o output $end"
      ∷ "$scope module line0 $end"
      ∷ "$var wire 1 l0 level0 $end"
      ∷ "$var wire 1 r0 request0 $end"
      ∷ "$var wire 1 s0 service0 $end"
      ∷ "$var wire 1 m0 mask0 $end"
      ∷ "$upscope $end"
      ∷ "$scope module line1 $end"
      ∷ "$var wire 1 l1 level1 $end"
      ∷ "$var wire 1 r1 request1 $end"
      ∷ "$var wire 1 s1 service1 $end"
      ∷ "$var wire 1 m1 mask1 $end"
      ∷ "$upscope $end"
      ∷ "$scope module line2 $end"
      ∷ "$var wire 1 l2 level2 $end"
      ∷ "$var wire 1 r2 request2 $end"
      ∷ "$var wire 1 s2 service2 $end"
      ∷ "$var wire 1 m2 mask2 $end"
      ∷ "$upscope $end"
      ∷ "$scope module line3 $end"
      ∷ "$var wire 1 l3 level3 $end"
      ∷ "$var wire 1 r3 request3 $end"
      ∷ "$var wire 1 s3 service3 $end"
      ∷ "$var wire 1 m3 mask3 $end"
      ∷ "$upscope $end"
      ∷ "$scope module line4 $end"
      ∷ "$var wire 1 l4 level4 $end"
      ∷ "$var wire 1 r4 request4 $end"
      ∷ "$var wire 1 s4 service4 $end"
      ∷ "$var wire 1 m4 mask4 $end"
      ∷ "$upscope $end"
      ∷ "$scope module line5 $end"
      ∷ "$var wire 1 l5 level5 $end"
      ∷ "$var wire 1 r5 request5 $end"
      ∷ "$var wire 1 s5 service5 $end"
      ∷ "$var wire 1 m5 mask5 $end"
      ∷ "$upscope $end"
      ∷ "$scope module line6 $end"
      ∷ "$var wire 1 l6 level6 $end"
      ∷ "$var wire 1 r6 request6 $end"
      ∷ "$var wire 1 s6 service6 $end"
      ∷ "$var wire 1 m6 mask6 $end"
      ∷ "$upscope $end"
      ∷ "$scope module line7 $end"
      ∷ "$var wire 1 l7 level7 $end"
      ∷ "$var wire 1 r7 request7 $end"
      ∷ "$var wire 1 s7 service7 $end"
      ∷ "$var wire 1 m7 mask7 $end"
      ∷ "$upscope $end"
      ∷ "$scope module seat2 $end"
      ∷ "$var wire 1 L27 lsr2[7] $end"
      ∷ "$var wire 1 L26 lsr2[6] $end"
      ∷ "$var wire 1 L25 lsr2[5] $end"
      ∷ "$var wire 1 L24 lsr2[4] $end"
      ∷ "$var wire 1 L23 lsr2[3] $end"
      ∷ "$var wire 1 L22 lsr2[2] $end"
      ∷ "$var wire 1 L21 lsr2[1] $end"
      ∷ "$var wire 1 L20 lsr2[0] $end"
      ∷ "$var wire 1 q24 queued2[4] $end"
      ∷ "$var wire 1 q23 queued2[3] $end"
      ∷ "$var wire 1 q22 queued2[2] $end"
      ∷ "$var wire 1 q21 queued2[1] $end"
      ∷ "$var wire 1 q20 queued2[0] $end"
      ∷ "$upscope $end"
      ∷ "$upscope $end"
      ∷ "$enddefinitions $end"
      ∷ [])
  pub first :
      first_words 0x04 at_power_up
      ≡ text
      ("#0" ∷ "0o"
      ∷ "0l0" ∷ "0r0" ∷ "0s0" ∷ "0m0" ∷ "0l1" ∷ "0r1" ∷ "0s1" ∷ "0m1" ∷ "0l2" ∷ "0r2" ∷ "0s2" ∷ "0m2" ∷ "0l3" ∷ "0r3" ∷ "0s3" ∷ "0m3"
      ∷ "0l4" ∷ "0r4" ∷ "0s4" ∷ "0m4" ∷ "0l5" ∷ "0r5" ∷ "0s5" ∷ "0m5" ∷ "0l6" ∷ "0r6" ∷ "0s6" ∷ "0m6" ∷ "0l7" ∷ "0r7" ∷ "0s7" ∷ "0m7"
      ∷ "0L27" ∷ "1L26" ∷ "1L25" ∷ "0L24" ∷ "0L23" ∷ "0L22" ∷ "0L21" ∷ "0L20" ∷ "0q24" ∷ "0q23" ∷ "0q22" ∷ "0q21" ∷ "0q20" ∷ [])
  pub arrives : step_words 0x04 9 at_power_up calling ≡ text ("#9" ∷ "1o" ∷ "1l2" ∷ "1r2" ∷ "1L20" ∷ "1q20" ∷ [])
  pub acknowledged : step_words 0x04 10 calling served ≡ text ("#10" ∷ "0o" ∷ "0r2" ∷ "1s2" ∷ [])
  pub quiet : step_words 0x04 11 served served ≡ text ("#11" ∷ [])
  pub read : step_words 0x04 12 served taken ≡ text ("#12" ∷ "0l2" ∷ "0L20" ∷ "0q20" ∷ [])
  pub last : time 17 ≡ text ("#17" ∷ [])
  -- a request that stands is told, though it is masked, and sixteen need the fifth bit
  pub full : step_words 0x80 100 at_power_up masked ≡ text ("#100" ∷ "1m0" ∷ "1l7" ∷ "1r7" ∷ "1m7" ∷ "1L77" ∷ "1L71" ∷ "1L70" ∷ "1q74" ∷ [])
  -- of a seat that is not in use nothing is told
  pub unused : step_words 0x04 100 at_power_up masked ≡ text ("#100" ∷ "1m0" ∷ "1l7" ∷ "1r7" ∷ "1m7" ∷ [])
