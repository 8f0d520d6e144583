-- `halves::halves` meets its contract: the length falls at each call of itself. At a place of its code, `h` is half the length and `wₙ` what w holds.
use Rattle.lists.proofs.Kit.{◌≡◌, refl, List, ℕ, ◌+◌, ◌-◌, ◌*◌, ◌/◌, ◌<◌, ◌≤◌, arith, length, take, drop, put_mid}
use Rattle.lists.specs.Ranges.{Stored}
use Rattle.polynomial.proofs.Stores.{stored-within}
use Rattle.halves.specs.Steps.{Size, from, Product, InPart}
use Rattle.halves.proofs.Part.{size-least, size-half, size-even, lent-long, part-product, product_at}
use Rattle.halves.proofs.{Moves.level-law}
use Rattle.halves.proofs.+halves.Goals as goal
use Rattle.halves.proofs.+halves.Goals.{After-spread, After-halves, After-copy_within, After-halves-else-n-le32, After-copy_within-else-n-le32}
use Rattle.halves.proofs.+halves.Goals.{After-halves-else-n-le32-2, After-join}

-- ---- where n is above 32
module _ (t : ℕ) (c : After-spread t) where
  abbrev h : ℕ
  h = c.args.n / 2

  even : c.args.n ≡ h + h
  even = size-even c.requires.size c.if-n-le32.false

  half : Size h
  half = size-half c.requires.size c.if-n-le32.false

  falling : h < t
  falling =
      let m : c.args.n ≡ t = c.decreases in
      omega (arith, m, c.if-n-le32.false)

  room₁ : 12 * h ≤ length c.spread.new.w
  room₁ = omega (arith, c.spread.ensures.long, even, c.requires.n_in_bounds)

  -- a product is lent the part of 6 h numbers from `at` to e
  lent : (w : List ℕ) (at e : ℕ) → e ≡ at + 6 * h → 12 * h ≤ length w → e ≤ 12 * h
      → (h < t) × ((6 * h ≤ length (take (e - at) (drop at w))) × Size h)
  lent w at e f r l = (falling, (lent-long h at e w f (omega arith), half))

-- ---- after each step
module _ (t : ℕ) (c : After-halves t) where
  abbrev u₂ : After-spread t
  u₂ = (goal.at.After-halves t c).After-spread

  abbrev w₂ : List ℕ
  w₂ = put_mid (4 * h t u₂) (10 * h t u₂ - 4 * h t u₂) c.spread.new.w c.halves.new.w

  made₂ : InPart c.spread.new.w (4 * h t u₂) (h t u₂) w₂
  made₂ = part-product (omega arith) (omega (arith, room₁ t u₂)) c.halves.ensures

module _ (t : ℕ) (c : After-copy_within t) where
  abbrev b₃ : After-halves t
  b₃ = (goal.at.After-copy_within t c).After-halves

  abbrev u₃ : After-spread t
  u₃ = u₂ t b₃

  copied₃ : Stored 0 (w₂ t b₃) (10 * h t u₃) (2 * h t u₃) (from (w₂ t b₃) (4 * h t u₃)) c.copy_within.new.self
  copied₃ = stored-within (4 * h t u₃) (6 * h t u₃) (10 * h t u₃) (2 * h t u₃) (omega arith) c.copy_within.ensures.len c.copy_within.ensures.by_index (λ k p. refl)

  room₃ : 12 * h t u₃ ≤ length c.copy_within.new.self
  room₃ = omega (arith, copied₃.long, (made₂ t b₃).long, room₁ t u₃)

module _ (t : ℕ) (c : After-halves-else-n-le32 t) where
  abbrev b₄ : After-copy_within t
  b₄ = (goal.at.After-halves-else-n-le32 t c).After-copy_within

  abbrev u₄ : After-spread t
  u₄ = u₃ t b₄

  abbrev w₄ : List ℕ
  w₄ = put_mid (2 * h t u₄) (8 * h t u₄ - 2 * h t u₄) c.copy_within.new.self c.halves-else-n-le32.new.w

  made₄ : InPart c.copy_within.new.self (2 * h t u₄) (h t u₄) w₄
  made₄ = part-product (omega arith) (omega (arith, room₃ t b₄)) c.halves-else-n-le32.ensures

module _ (t : ℕ) (c : After-copy_within-else-n-le32 t) where
  abbrev b₅ : After-halves-else-n-le32 t
  b₅ = (goal.at.After-copy_within-else-n-le32 t c).After-halves-else-n-le32

  abbrev u₅ : After-spread t
  u₅ = u₄ t b₅

  copied₅ : Stored 0 (w₄ t b₅) (8 * h t u₅) (2 * h t u₅) (from (w₄ t b₅) (2 * h t u₅)) c.copy_within-else-n-le32.new.self
  copied₅ = stored-within (2 * h t u₅) (4 * h t u₅) (8 * h t u₅) (2 * h t u₅) (omega arith) c.copy_within-else-n-le32.ensures.len c.copy_within-else-n-le32.ensures.by_index (λ k p. refl)

  room₅ : 12 * h t u₅ ≤ length c.copy_within-else-n-le32.new.self
  room₅ = omega (arith, copied₅.long, (made₄ t b₅).long, room₃ t (b₄ t b₅))

module _ (t : ℕ) (c : After-halves-else-n-le32-2 t) where
  abbrev b₆ : After-copy_within-else-n-le32 t
  b₆ = (goal.at.After-halves-else-n-le32-2 t c).After-copy_within-else-n-le32

  abbrev u₆ : After-spread t
  u₆ = u₅ t b₆

  abbrev w₆ : List ℕ
  w₆ = put_mid 0 (6 * h t u₆ - 0) c.copy_within-else-n-le32.new.self c.halves-else-n-le32-2.new.w

  made₆ : InPart c.copy_within-else-n-le32.new.self 0 (h t u₆) w₆
  made₆ = part-product {e = 6 * h t u₆} (omega arith) (omega (arith, room₅ t b₆)) c.halves-else-n-le32-2.ensures

all : (t : ℕ) (c : After-join t) → Product c.args.w.now (c.args.n / 2 + c.args.n / 2) c.join.new.w
all t c =
    let b = (goal.at.After-join t c).After-halves-else-n-le32-2 in
    let e = b₆ t b in
    let d = b₅ t e in
    let l = c.args.n / 2 in
    let copied₇ : Stored 0 (w₆ t b) (2 * l) (2 * l) (from (w₆ t b) (8 * l)) c.copy_within-else-n-le32-2.new.self =
    stored-within (8 * l) (10 * l) (2 * l) (2 * l) (omega arith) c.copy_within-else-n-le32-2.ensures.len c.copy_within-else-n-le32-2.ensures.by_index (λ k p. refl) in
    level-law {h = c.args.n / 2} c.spread.ensures (made₂ t (b₃ t (b₄ t d))) (copied₃ t (b₄ t d)) (made₄ t d) (copied₅ t e) (made₆ t b) copied₇ c.join.ensures

-- ---- the goals
pub leaf-requires : goal.leaf-requires
leaf-requires t c = omega (arith, size-least c.requires.size, c.requires.n_in_bounds)

pub halves-requires : goal.halves-requires
halves-requires t c =
    let u = (goal.at.halves-requires t c).After-spread in
    lent t u _ (4 * h t u) (10 * h t u) (omega arith) (room₁ t u) (omega arith)

pub halves-requires-else-n-le32 : goal.halves-requires-else-n-le32
halves-requires-else-n-le32 t c =
    let b = (goal.at.halves-requires-else-n-le32 t c).After-copy_within in
    let u = u₃ t b in
    lent t u _ (2 * h t u) (8 * h t u) (omega arith) (room₃ t b) (omega arith)

pub halves-requires-else-n-le32-2 : goal.halves-requires-else-n-le32-2
halves-requires-else-n-le32-2 t c =
    let b = (goal.at.halves-requires-else-n-le32-2 t c).After-copy_within-else-n-le32 in
    let u = u₅ t b in
    lent t u _ 0 (6 * h t u) (omega arith) (room₅ t b) (omega arith)

pub returns-then-n-le32 : goal.returns-then-n-le32
returns-then-n-le32 t c =
    let e : c.args.n ≡ 32 = omega (arith, size-least c.requires.size, c.if-n-le32.true) in
    product_at e c.leaf.ensures

pub returns-else-n-le32 : goal.returns-else-n-le32
returns-else-n-le32 t c =
    let j = (goal.at.returns-else-n-le32 t c).After-join in
    product_at (even t ((goal.at.returns-else-n-le32 t c).After-spread)) (all t j)
