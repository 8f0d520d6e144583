-- The lengths of each scheme hang together, and a scheme is found by its number.
--   Tied f, tied     how the lengths of a scheme hang together
--   by_number, by-scheme   a scheme's own number names it, and no other does
--   few-schemes      which is at most 5
--   names-option     what a number names, as an Option
use mathlib.{Core.Path.◌≡◌, Core.Path.refl, Core.Path.◌∙◌, Core.Bool.Bool, Core.Bool.true, Core.Bool.false, Core.Bool.cond}
use Prim.Native.Nat.{ℕ, ◌+◌, ◌*◌, ◌≤◌}
use native.Mathlib.Omega.{arith}
use Rattle.std.specs.Prelude.{Option, Some, None, Result, Ok, Err}
use Rattle.std.specs.Result.{result_ok}
use lib.Dec.{eqb}
use borrow.Author.Tests.{eqb-true}
use Rattle.schemes.specs.Schemes.{Fixed, Scheme, Bcns, NewHope, Challenge, Classical, Recommended, Paranoid, fixed_of, scheme_number, Names, UnknownScheme, scheme_of_lem}

-- 01, "Bytes on the wire": every total fills whole bytes, and a message is the sum of its parts
pub record Tied (f : Fixed) : Type 0 where
  pub numbers : 8 * f.packed ≡ f.width * f.secret
  pub hints : 8 * f.hint ≡ f.hintbits * f.mixed
  pub keys : 8 * f.key ≡ f.keybits * f.groups
  pub coins : 8 * f.coins ≡ f.coinbits * f.groups
  pub noise : f.noise ≡ f.secret
  pub opening : f.opening ≡ f.packed + f.seed
  pub reply : f.reply ≡ f.packed + f.hint

pub tied : (s : Scheme) → Tied (fixed_of s)
tied Bcns = record { numbers = refl; hints = refl; keys = refl; coins = refl; noise = refl; opening = refl; reply = refl }
tied NewHope = record { numbers = refl; hints = refl; keys = refl; coins = refl; noise = refl; opening = refl; reply = refl }
tied Challenge = record { numbers = refl; hints = refl; keys = refl; coins = refl; noise = refl; opening = refl; reply = refl }
tied Classical = record { numbers = refl; hints = refl; keys = refl; coins = refl; noise = refl; opening = refl; reply = refl }
tied Recommended = record { numbers = refl; hints = refl; keys = refl; coins = refl; noise = refl; opening = refl; reply = refl }
tied Paranoid = record { numbers = refl; hints = refl; keys = refl; coins = refl; noise = refl; opening = refl; reply = refl }

pub by_number : (s : Scheme) → scheme_of_lem (scheme_number s) ≡ Some s
by_number Bcns = refl
by_number NewHope = refl
by_number Challenge = refl
by_number Classical = refl
by_number Recommended = refl
by_number Paranoid = refl

-- one number of the list more
one : (k i : ℕ) (b : Scheme) (rest : Option Scheme) → i ≡ scheme_number b → ((c : Scheme) → rest ≡ Some c → k ≡ scheme_number c)
    → (c : Scheme) → cond (eqb k i) (Some b) rest ≡ Some c → k ≡ scheme_number c
one k i b rest e h c = go (eqb k i) refl
  where
    go : (t : Bool) → eqb k i ≡ t → cond t (Some b) rest ≡ Some c → k ≡ scheme_number c
    go true f d = let p : b ≡ c = cc in rw (← p) (eqb-true k i f ∙ e)
    go false f d = h c d

pub by-scheme : (k : ℕ) (c : Scheme) → scheme_of_lem k ≡ Some c → k ≡ scheme_number c
by-scheme k =
    one k 0 Bcns _ refl (one k 1 NewHope _ refl (one k 2 Challenge _ refl
    (one k 3 Classical _ refl (one k 4 Recommended _ refl (one k 5 Paranoid None refl none)))))
  where
    none : (c : Scheme) → None ≡ Some c → k ≡ scheme_number c
    none c d = let z : ◌≡◌ {A = ℕ} 0 1 = cc in absurd (omega arith)

pub few-schemes : (s : Scheme) → scheme_number s ≤ 5
few-schemes Bcns = omega arith
few-schemes NewHope = omega arith
few-schemes Challenge = omega arith
few-schemes Classical = omega arith
few-schemes Recommended = omega arith
few-schemes Paranoid = omega arith

pub names-option : (k : ℕ) (r : Result Scheme UnknownScheme) → Names k r → scheme_of_lem k ≡ result_ok r
names-option k (Ok c) n = n
names-option k (Err e) n = n
