-- The bench cards that 01 marks, as one table: 01, "Bench cards", as amended by request d (docs/RULES.md).
--   Card    one card: the inputs, then what they give
--   Says    what a card says of the definitions
--   table   the cards, in 01's order
--   Shown   all of them hold
use Rattle.std.specs.Prelude.{◌≡◌, List, [], ◌∷◌, ℕ, ℤ, pos, negsuc}
use Rattle.schemes.specs.{declared.Scheme.TheVariants.Recommended, Schemes.fixed_of}
use Rattle.noise.specs.Noise.{new_hope_noise, threshold_of_lem, d3}
use Rattle.newhope.specs.declared.Four.{Four}
use Rattle.bcns.specs.Rounding as bcns
use Rattle.frodo.specs.Rounding as frodo
use Rattle.newhope.specs.Group as newhope

pub data Card : Type 0 where
  -- BCNS: v, coin; hint, bit. And w, hint; bit
  bcns-value : (v coin hint bit : ℕ) → Card
  bcns-peer : (w hint bit : ℕ) → Card
  -- Frodo 4: v; hint, key. And w, hint; key
  frodo-value : (v hint key : ℕ) → Card
  frodo-peer : (w hint key : ℕ) → Card
  -- NewHope: coin, the four entries; the four hints, bit
  newhope-group : (coin a b c d h0 h1 h2 h3 bit : ℕ) → Card
  -- NewHope's noise: four bytes; the value
  newhope-noise : (a b c d : ℕ) → ℤ → Card
  -- D3: a word; the value
  frodo-noise : (word : ℕ) → ℤ → Card

abbrev pub four : ℕ → ℕ → ℕ → ℕ → Four
four a b c d = record { e0 = a; e1 = b; e2 = c; e3 = d }

-- Frodo's I and B
abbrev pub I : ℕ
I = frodo.interval (fixed_of Recommended)

abbrev pub B : ℕ
B = (fixed_of Recommended).keybits

abbrev pub Says : Card → Type 0
Says (bcns-value v coin hint bit) = (bcns.hint_of (bcns.doubled coin v) ≡ hint) × (bcns.key_of (bcns.doubled coin v) ≡ bit)
Says (bcns-peer w hint bit) = bcns.peer_of hint w ≡ bit
Says (frodo-value v hint key) = (frodo.hint_of I v ≡ hint) × (frodo.key_of I B v ≡ key)
Says (frodo-peer w hint key) = frodo.peer_of I B hint w ≡ key
Says (newhope-group coin a b c d h0 h1 h2 h3 bit) =
    (newhope.hint_of coin (four a b c d) ≡ four h0 h1 h2 h3) × (newhope.bit_of (four h0 h1 h2 h3) (four a b c d) ≡ bit)
Says (newhope-noise a b c d z) = new_hope_noise (a ∷ b ∷ c ∷ d ∷ []) ≡ z ∷ []
Says (frodo-noise word z) = threshold_of_lem d3 11 word ≡ z

abbrev pub All : List Card → Type 0
All [] = Unit
All (c ∷ cs) = Says c × All cs

unfoldable pub table : List Card
table =
    bcns-value 1073741824 2 0 0
    ∷ bcns-peer 1610612735 0 0
    ∷ bcns-peer 1610612736 0 1
    ∷ bcns-value 1073741824 0 1 1
    ∷ bcns-value 0 2 1 0
    ∷ frodo-value 1023 0 0
    ∷ frodo-peer 1535 0 0
    ∷ frodo-peer 1536 0 1
    ∷ frodo-value 32767 1 0
    ∷ frodo-peer 0 1 0
    ∷ newhope-group 0 0 0 0 0 0 0 0 0 1
    ∷ newhope-group 1 0 0 0 0 0 0 0 0 1
    ∷ newhope-group 0 6144 6144 6144 6144 0 0 0 0 0
    ∷ newhope-group 0 1536 1536 1536 1536 0 0 0 1 1
    ∷ newhope-noise 255 255 0 0 (pos 16)
    ∷ newhope-noise 1 0 3 0 (negsuc 0)
    ∷ frodo-noise 1205 (pos 0)
    ∷ frodo-noise 1206 (pos 1)
    ∷ frodo-noise 4095 (negsuc 4)
    ∷ []

abbrev pub Shown : Type 0
Shown = All table
