-- What proofs take of the kit, passed on from one place.
pub use mathlib.Core.Bool.{Bool, true, false, cond, ◌&&◌, ◌||◌, not}
pub use mathlib.Core.List.{List, [], ◌∷◌, ◌++◌, append_assoc, append-nil}
pub use mathlib.Core.Logic.{◌↔◌, ◌⊎◌, inl, inr, ◌≢◌, ⊎_elim}
pub use mathlib.Core.Path.{◌≡◌, refl, sym, ◌∙◌, ap, ap₂, subst}
pub use Prim.Native.Nat.{ℕ, zero, suc, ◌+◌, ◌*◌, ◌-◌, ◌/◌, ◌%◌, ◌^◌, ◌<◌, ◌≤◌, min, max, suc-le-suc}
pub use lib.Arith.{digits_div, digits_lt, digits_mod}
pub use lib.Bits.{and_le_l, and_le_r, and_mask, bit_and, bit_or, bit_xor, or_add_and, xor_lt}
pub use lib.Dec.{T, eqb, eqb-suc-suc as eqb·suc-suc, eqb-suc-zero as eqb·suc-zero, eqb-zero-suc as eqb·zero-suc, eqb→eq, leb, lit≤, ltb}
pub use lib.IntN.{ℤ, pos, negsuc, neg_ℤ, ◌+ℤ◌, ◌-ℤ◌, ◌*ℤ◌, nat_abs, *ℤ_comm, +ℤ_comm, +ℤ_idl, +ℤ_idr}
pub use lib.ListN.{length, get_or, set, take, drop, replicate, get_or-append as List·getD-append, get_or-eq_default as List·getD-eq-default, drop_of_length-le, get_or-replicate, length-append}
pub use lib.ListN.{length-drop, length-replicate, length-set, length-take, replicate-append-replicate, take-append-drop}
pub use lib.Pow.{field, mod-pow-add, pow-add, pow_mono, pow_pos, shl_exact, shl-shr, shr_lt, shr-shr}
pub use lib.Seq.{drop-append-le, drop_at, drop-cons, drop-drop, drop-nil, ext_get_or, get_or-append-add, get_or-append_seam, get_or-drop, get_or-set_other, get_or-set_same}
pub use lib.Seq.{get_or-take, length-take-le, set_at, set_split, split_at, take-add, take_all, take-append-le, take-append_seam, take_at, take-nil, take-take}
pub use lib.Signed.{lt_z, nat_abs-le}
pub use native.Mathlib.Decide.{dec_le, dec_lt, ℕ_discrete}
pub use native.Mathlib.Nat.{add_assoc, add-mod_right, add-mul-div_left, add-mul-mod_self_left, add-suc, add-zero, div-add-mod, div-add-mod', div-div-eq-div-mul}
pub use native.Mathlib.Nat.{div-le_self, div-lt_iff_lt-mul, div-mul-le_self, div-one, le-div_iff_mul-le, le_of_eq, le_of_mul-le-mul_left, le_of_suc-le-suc}
pub use native.Mathlib.Nat.{le_refl, le_trans, lt-div-mul-add, lt_of_lt_of_le, mod-add-mod, mod-eq_of_lt, mod-lt, mul_assoc, mul_comm, mul-div_cancel}
pub use native.Mathlib.Nat.{mul-le-mul, mul-le-mul_left, mul-le-mul_right, mul-mod_left, mul-one, mul-zero, not-suc-le-zero, one-le-pow, one-mul}
pub use native.Mathlib.Nat.{pow-le-pow_right, pow-suc, pow-succ', sub-zero, suc-add, suc-sub-suc, zero-add, zero-div, zero-mod, zero-mul, zero-sub}
pub use native.Mathlib.Numerals.{add-one}
pub use native.Mathlib.Omega.{arith}
pub use borrow.Author.Rules.{rules}
pub use borrow.Author.Tests.{eq-eqb, eqb-false, eqb-true, le-leb, le-ltb, leb-false, leb-true, lt-leb, lt-ltb, ltb-false, ltb-true, ne_eqb, not-false, not-true}
pub use borrow.Rule.Slice.PartMut.{put_mid, same_len_mid}
pub use mir.Facts.{sfits_widen, to_z-of_z}
pub use mir.Syntax.{Width, w16, w32, w64}
pub use mir.Val.{Fits, SFits, bool_byte, hbits, of_z, to_z}
