-- `polynomial::windows` meets its contract: the length falls at each call of itself.
use Rattle.lists.proofs.Kit.{◌≡◌, ◌∙◌, sym, ap, List, ℕ, ◌+◌, ◌*◌, ◌-◌, ◌<◌, ◌≤◌, arith, length, get_or, ℤ, pos, nat_abs, ◌+ℤ◌, ◌-ℤ◌, put_mid, w16, lit≤}
use Rattle.lists.specs.{Entries.nums, Entries.ints, Ranges.Stored}
use Rattle.polynomial.specs.Steps.{Ready, Made}
use Rattle.polynomial.proofs.Level.{low-ready, low-made, high-ready, high-made, middle-ready, middle-made, three-small, level-made, ready_at, made_at}
use Rattle.polynomial.proofs.Level.{few-size}
use Rattle.polynomial.proofs.{Level.may-add, Stores.rest-long, Stores.rest-back, Stores.stored-within, Stores.sum-stored}
use Rattle.polynomial.proofs.+windows.Goals as goal
use Rattle.polynomial.proofs.+windows.Goals.{After-copy_within, After-windows, After-add, After-windows-2, After-windows-3}

-- ---- where n is even
module _ (t : ℕ) (c : After-copy_within t) where
  abbrev m : ℕ
  m = c.half-m.result

  abbrev four : ℕ
  four = m + m + (m + m)

  even : c.args.n ≡ m + m
  even = (c.half-m.ensures (omega arith)).0

  some : 32 < m
  some = (c.half-m.ensures (omega arith)).1

  falling : m < t
  falling =
      let d : c.args.n ≡ t = c.decreases in
      omega (arith, d, even, some)

  whole : Ready c.args.q (m + m) c.args.d.now c.args.t.now
  whole = ready_at even c.requires.ready

  few : m ≤ 512
  few = omega (arith, whole.few)

  d-long₁ : 8 * m ≤ length c.subtract.new.d
  d-long₁ = omega (arith, even, c.requires.n_in_bounds.0, c.subtract.ensures.long)

  t-long₁ : 10 * m ≤ length c.copy_within.new.self
  t-long₁ = omega (arith, even, c.requires.n_in_bounds.1, c.copy_within.ensures.len)

  o-long₀ : 4 * m ≤ length c.args.o.now
  o-long₀ = omega (arith, even, c.requires.n_in_bounds.2)

  copied : Stored (pos 0) c.args.t.now (m + m) m (ints c.args.t.now) c.copy_within.new.self
  unfolding ints
  copied = stored-within 0 m (m + m) m (omega arith) c.copy_within.ensures.len c.copy_within.ensures.by_index (λ k p. ap (λ (i : ℕ). get_or c.args.t.now i (pos 0)) (omega arith))

  -- no secret is too large to be added to another
  secrets-small : (x : List ℤ) → ((j : ℕ) → j < m + m → get_or x j (pos 0) ≡ get_or c.args.t.now j (pos 0)) → (j : ℕ) → j < m + m → nat_abs (ints x j) ≤ 16383
  unfolding ints
  secrets-small x e j p = rw (e j p) (few-size whole.secrets (omega (arith, some)) j p)

-- ---- after the lower half
module _ (t : ℕ) (c : After-windows t) where
  abbrev b₂ : After-copy_within t
  b₂ = (goal.at.After-windows t c).After-copy_within

  abbrev m₂ : ℕ
  m₂ = c.half-m.result

  abbrev four₂ : ℕ
  four₂ = m₂ + m₂ + (m₂ + m₂)

  abbrev d₂ : List ℕ
  d₂ = put_mid four₂ (length c.subtract.new.d - four₂) c.subtract.new.d c.windows.new.d

  abbrev t₂ : List ℤ
  t₂ = put_mid (m₂ + m₂) (length c.copy_within.new.self - (m₂ + m₂)) c.copy_within.new.self c.windows.new.t

  d-back₂ : Stored 0 c.subtract.new.d four₂ (length c.subtract.new.d - four₂) (λ k. get_or c.windows.new.d k 0) d₂
  d-back₂ = rest-back four₂ c.subtract.new.d c.windows.new.d (omega (arith, d-long₁ t b₂)) c.windows.auto.d

  t-back₂ : Stored (pos 0) c.copy_within.new.self (m₂ + m₂) (length c.copy_within.new.self - (m₂ + m₂)) (λ k. get_or c.windows.new.t k (pos 0)) t₂
  t-back₂ = rest-back (m₂ + m₂) c.copy_within.new.self c.windows.new.t (omega (arith, t-long₁ t b₂)) c.windows.auto.t

  d-long₂ : 8 * m₂ ≤ length d₂
  d-long₂ = omega (arith, d-long₁ t b₂, d-back₂.long)

  t-long₂ : 10 * m₂ ≤ length t₂
  t-long₂ = omega (arith, t-long₁ t b₂, t-back₂.long)

  o-long₁ : 4 * m₂ ≤ length c.windows.new.o
  o-long₁ = omega (arith, o-long₀ t b₂, c.windows.auto.o)

  d-same₂ : (i : ℕ) → i < four₂ → get_or d₂ i 0 ≡ get_or c.args.d.now i 0
  d-same₂ i p = d-back₂.below i p ∙ c.subtract.ensures.below i p

  t-same₂ : (j : ℕ) → j < m₂ + m₂ → get_or t₂ j (pos 0) ≡ get_or c.args.t.now j (pos 0)
  t-same₂ j p = t-back₂.below j p ∙ (copied t b₂).below j p

-- ---- before the upper half
module _ (t : ℕ) (c : After-add t) where
  abbrev b₃ : After-windows t
  b₃ = (goal.at.After-add t c).After-windows

  abbrev m₃ : ℕ
  m₃ = c.half-m.result

  d-long₃ : 8 * m₃ ≤ length c.subtract-2.new.d
  d-long₃ = omega (arith, d-long₂ t b₃, c.subtract-2.ensures.long)

  t-long₃ : 10 * m₃ ≤ length c.add.new.w
  t-long₃ = omega (arith, t-long₂ t b₃, c.add.ensures.long)

-- ---- after the upper half
module _ (t : ℕ) (c : After-windows-2 t) where
  abbrev b₄ : After-add t
  b₄ = (goal.at.After-windows-2 t c).After-add

  abbrev m₄ : ℕ
  m₄ = c.half-m.result

  abbrev four₄ : ℕ
  four₄ = m₄ + m₄ + (m₄ + m₄)

  abbrev d₄ : List ℕ
  d₄ = put_mid four₄ (length c.subtract-2.new.d - four₄) c.subtract-2.new.d c.windows-2.new.d

  abbrev t₄ : List ℤ
  t₄ = put_mid m₄ (length c.add.new.w - m₄) c.add.new.w c.windows-2.new.t

  abbrev o₂ : List ℤ
  o₂ = put_mid m₄ (length c.windows.new.o - m₄) c.windows.new.o c.windows-2.new.o

  d-back₄ : Stored 0 c.subtract-2.new.d four₄ (length c.subtract-2.new.d - four₄) (λ k. get_or c.windows-2.new.d k 0) d₄
  d-back₄ = rest-back four₄ c.subtract-2.new.d c.windows-2.new.d (omega (arith, d-long₃ t b₄)) c.windows-2.auto.d

  t-back₄ : Stored (pos 0) c.add.new.w m₄ (length c.add.new.w - m₄) (λ k. get_or c.windows-2.new.t k (pos 0)) t₄
  t-back₄ = rest-back m₄ c.add.new.w c.windows-2.new.t (omega (arith, t-long₃ t b₄)) c.windows-2.auto.t

  o-back₂ : Stored (pos 0) c.windows.new.o m₄ (length c.windows.new.o - m₄) (λ k. get_or c.windows-2.new.o k (pos 0)) o₂
  o-back₂ = rest-back m₄ c.windows.new.o c.windows-2.new.o (omega (arith, o-long₁ t (b₃ t b₄))) c.windows-2.auto.o

  d-long₄ : 8 * m₄ ≤ length d₄
  d-long₄ = omega (arith, d-long₃ t b₄, d-back₄.long)

  t-long₄ : 10 * m₄ ≤ length t₄
  t-long₄ = omega (arith, t-long₃ t b₄, t-back₄.long)

  o-long₂ : 4 * m₄ ≤ length o₂
  o-long₂ = omega (arith, o-long₁ t (b₃ t b₄), o-back₂.long)

  d-same₄ : (i : ℕ) → i < four₄ → get_or d₄ i 0 ≡ get_or c.subtract-2.new.d i 0
  d-same₄ i p = d-back₄.below i p

  t-same₄ : (j : ℕ) → j < m₄ → get_or t₄ j (pos 0) ≡ get_or c.add.new.w j (pos 0)
  t-same₄ j p = t-back₄.below j p

-- ---- all three
module _ (t : ℕ) (c : After-windows-3 t) where
  abbrev b₅ : After-windows-2 t
  b₅ = (goal.at.After-windows-3 t c).After-windows-2

  abbrev e₅ : After-windows t
  e₅ = b₃ t (b₄ t b₅)

  abbrev u₅ : After-copy_within t
  u₅ = b₂ t e₅

  abbrev m₅ : ℕ
  m₅ = c.half-m.result

  abbrev o₃ : List ℤ
  o₃ = put_mid (m₅ + m₅) (length (o₂ t b₅) - (m₅ + m₅)) (o₂ t b₅) c.windows-3.new.o

  o-back₃ : Stored (pos 0) (o₂ t b₅) (m₅ + m₅) (length (o₂ t b₅) - (m₅ + m₅)) (λ k. get_or c.windows-3.new.o k (pos 0)) o₃
  o-back₃ = rest-back (m₅ + m₅) (o₂ t b₅) c.windows-3.new.o (omega (arith, o-long₂ t b₅)) c.windows-3.auto.o

  low-at : (k : ℕ) → k < m₅ → ints o₃ k ≡ ints c.windows.new.o k
  unfolding ints
  low-at k p = o-back₃.below k (omega arith) ∙ (o-back₂ t b₅).below k p

  high-at : (k : ℕ) → k < m₅ → ints o₃ (m₅ + k) ≡ ints c.windows-2.new.o k
  unfolding ints
  high-at k p = o-back₃.below (m₅ + k) (omega arith) ∙ (o-back₂ t b₅).inside k (omega (arith, o-long₁ t e₅))

  middle-at : (k : ℕ) → k < m₅ → ints o₃ (m₅ + m₅ + k) ≡ ints c.windows-3.new.o k
  unfolding ints
  middle-at k p = o-back₃.inside k (omega (arith, o-long₂ t b₅))

  low : Made c.args.q m₅ (λ i. nums c.args.d.now i -ℤ nums c.args.d.now (m₅ + i)) (ints c.args.t.now) c.windows.new.o
  low = low-made m₅ (whole t u₅) c.subtract.ensures (copied t u₅) c.windows.ensures

  high : Made c.args.q m₅ (λ i. nums c.args.d.now (m₅ + m₅ + i) -ℤ nums c.args.d.now (m₅ + i)) (λ j. ints c.args.t.now (m₅ + j)) c.windows-2.new.o
  high = high-made m₅ (whole t u₅) (d-same₂ t e₅) (t-same₂ t e₅) c.subtract-2.ensures (sum-stored c.add.ensures) c.windows-2.ensures

  middle : Made c.args.q m₅ (λ i. nums c.args.d.now (m₅ + i)) (λ j. ints c.args.t.now j +ℤ ints c.args.t.now (m₅ + j)) c.windows-3.new.o
  middle =
      middle-made m₅ (whole t u₅) (d-same₂ t e₅) (t-same₂ t e₅) c.subtract-2.ensures (sum-stored c.add.ensures) (d₄ t b₅) (t₄ t b₅) (d-same₄ t b₅) (t-same₄ t b₅) c.windows-3.ensures

-- ---- the goals
pub windows-requires : goal.windows-requires
windows-requires t c =
    let u = (goal.at.windows-requires t c).After-copy_within in
    let m₁ = m t u in (
      falling t u,
      (
        low-ready m₁ (whole t u) c.subtract.ensures (copied t u),
        (omega (arith, rest-long (m₁ + m₁ + (m₁ + m₁)) c.subtract.new.d, d-long₁ t u), omega (arith, rest-long (m₁ + m₁) c.copy_within.new.self, t-long₁ t u), omega (arith, o-long₀ t u)),
      ),
    )

pub subtract-requires-2-clause-by_index : goal.subtract-requires-2-clause-by_index
subtract-requires-2-clause-by_index t c =
    let e = (goal.at.subtract-requires-2-clause-by_index t c).After-windows in
    λ i p. rw (d-same₂ t e i (omega arith)) ((whole t (b₂ t e)).below i (omega arith))

pub add-requires-clause-by_index : goal.add-requires-clause-by_index
add-requires-clause-by_index t c =
    let e = (goal.at.add-requires-clause-by_index t c).After-windows in
    let s = secrets-small t (b₂ t e) (t₂ t e) (t-same₂ t e) in
    λ z k p. may-add w16 16383 (t₂ t e) _ _ z (omega (arith, t-long₂ t e)) (omega (arith, t-long₂ t e)) (s _ (omega arith)) (s _ (omega arith)) (lit≤ tt)

pub windows-requires-2 : goal.windows-requires-2
windows-requires-2 t c =
    let a = (goal.at.windows-requires-2 t c).After-add in
    let e = b₃ t a in
    let u = b₂ t e in
    let m₁ = m t u in (
      falling t u,
      (
        high-ready m₁ (whole t u) (d-same₂ t e) (t-same₂ t e) c.subtract-2.ensures (sum-stored c.add.ensures),
        (omega (arith, rest-long (m₁ + m₁ + (m₁ + m₁)) c.subtract-2.new.d, d-long₃ t a), omega (arith, rest-long m₁ c.add.new.w, t-long₃ t a), omega (arith, rest-long m₁ c.windows.new.o, o-long₁ t e)),
      ),
    )

pub windows-requires-3 : goal.windows-requires-3
windows-requires-3 t c =
    let w = (goal.at.windows-requires-3 t c).After-windows-2 in
    let e = b₃ t (b₄ t w) in
    let u = b₂ t e in
    let m₁ = m t u in (
      falling t u,
      (
        middle-ready m₁ (whole t u) (d-same₂ t e) (t-same₂ t e) c.subtract-2.ensures (sum-stored c.add.ensures) (d₄ t w) (t₄ t w) (d-same₄ t w) (t-same₄ t w),
        (omega (arith, rest-long m₁ (d₄ t w), d-long₄ t w), omega (arith, t-long₄ t w), omega (arith, rest-long (m₁ + m₁) (o₂ t w), o-long₂ t w)),
      ),
    )

pub join-requires : goal.join-requires
join-requires t c =
    let v = (goal.at.join-requires t c).After-windows-3 in (
      omega (arith, (o-back₃ t v).long, o-long₂ t (b₅ t v)),
      three-small (nums c.args.d.now) (ints c.args.t.now) (o₃ t v) (low t v) (high t v) (middle t v) (low-at t v) (high-at t v) (middle-at t v) (omega (arith, few t (u₅ t v))),
    )

pub returns : goal.returns
returns t c =
    let v = (goal.at.returns t c).After-windows-3 in
    made_at (sym (even t (u₅ t v)))
    (level-made (nums c.args.d.now) (ints c.args.t.now) (o₃ t v) (low t v) (high t v) (middle t v) (low-at t v) (high-at t v) (middle-at t v) c.join.ensures)
