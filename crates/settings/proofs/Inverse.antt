-- Reading undoes writing, and nothing else is read (`specs/Shown.antt`).
--   text-read, no_other        the text of settings is read as them, and no other text is
--   newer-told, newer-only     a newer format is told exactly where the first line says so
--   back, same_bytes, same-reading, older-tells, upgraded   what follows
use Rattle.lists.proofs.Kit.{refl, ◌∙◌, sym, ap, ap₂, subst, Bool, true, false, cond, List, [], ℕ, zero, suc, arith, eqb, ltb, length}
use Rattle.std.proofs.Common.{◌≡◌, ◌∷◌, ◌++◌, ◌≤◌}
use Rattle.lists.proofs.Kit.{get_or, take, drop, length-append, drop_of_length-le, take-append_seam, get_or-append_seam, split_at, length-take-le, leb-true}
use Rattle.lists.proofs.Kit.{ltb-true, ltb-false, eqb-true, le-leb, lt-ltb, le-ltb, eq-eqb}
use Rattle.lists.specs.First.{first_where}
use Rattle.lists.proofs.Table.{both_true, cond-all}
use Rattle.text.specs.Text.{LF, scheme_name, line, Read, number, other, is_digit_lem, begins, field_in}
use Rattle.text.proofs.{Reading.begins-is, Runs.run-all, Runs.run_take, Lines.begins-front, Lines.line-forth, Lines.line-back}
use Rattle.settings.specs.Settings.{Setup, setup_of, format_name, rule_name, label_name, format_of, label_line, text_of, is_scheme_lem, is_rule_lem, not_allowed_lem, letters}
use Rattle.settings.specs.Settings.{Reading, setup, newer, misfit, well_spelled_lem, spelled_in, last_in, end_in, tail_in, rule_in, scheme_in, format_in, reads}
use Rattle.settings.specs.Shown.{Valid, Newer, TextRead, NoOther, NewerTold, NewerOnly, Back, SameBytes, SameReading, OlderTells, Upgraded}
use Rattle.settings.proofs.Known.{scheme-small, rule-small, format-some}

never : {X : Type 0} {r : Reading} {x : Setup} → r ≡ misfit → r ≡ setup x → X
never e h = let z : ◌≡◌ {A = ℕ} 0 1 = cc in absurd (omega arith)

same-setup : {x y : Setup} → setup x ≡ setup y → x ≡ y
same-setup e = cc

-- ---- a newer format

pub newer-told : NewerTold
unfolding reads format_in
newer-told reader xs n h = rw (h.first, lt-ltb reader n h.above)

-- ---- from settings

module _ (l : List ℕ) (some : 1 ≤ length l) (short : length l ≤ 16) (bytes : letters l ≡ length l) where
  run_is : letters (l ++ LF ∷ []) ≡ length l
  unfolding letters not_allowed_lem is_digit_lem
  run_is = run-all not_allowed_lem l LF [] bytes refl

  spelled-true : well_spelled_lem (l ++ LF ∷ []) ≡ true
  unfolding well_spelled_lem
  spelled-true =
      rw (run_is, le-leb 1 (length l) some, le-leb (length l) 16 short, eq-eqb (length (l ++ LF ∷ [])) (suc (length l)) (length-append l (LF ∷ []) ∙ omega arith))
      (eq-eqb (get_or (l ++ LF ∷ []) (length l) 0) LF (get_or-append_seam l LF [] 0))

  spelled-forth : (a b : ℕ) → spelled_in a b (l ++ LF ∷ []) ≡ setup (setup_of a b l)
  unfolding spelled_in
  spelled-forth a b = rw (spelled-true, run_is, take-append_seam)

tail-forth : (a b : ℕ) (l : List ℕ) → length l ≤ 16 → letters l ≡ length l → tail_in (format_of (length l)) a b (label_line l) ≡ setup (setup_of a b l)
unfolding tail_in format_of label_line end_in last_in
tail-forth a b [] s h = refl
tail-forth a b (x ∷ l) s h = rw (begins-front label_name ((x ∷ l) ++ LF ∷ [])) (spelled-forth (x ∷ l) (omega arith) s h a b)

format_small : (n : ℕ) → format_of n ≤ 2
unfolding format_of
format_small zero = omega arith
format_small (suc n) = omega arith

pub text-read : TextRead
unfolding reads text_of format_in scheme_in rule_in
text-read reader xs x h =
    let v = h.valid in
    let a = x.scheme in
    let b = x.rule in
    let l = x.label in
    rw (
      h.text,
      line-forth format_name (format_of (length l)) (line scheme_name a ++ (line rule_name b ++ label_line l)) (omega (arith, format_small (length l))),
      le-ltb reader (format_of (length l)) h.format,
      line-forth scheme_name a (line rule_name b ++ label_line l) (omega (arith, scheme-small a v.scheme)),
      v.scheme,
      line-forth rule_name b (label_line l) (omega (arith, rule-small b v.rule)),
      v.rule,
    )
    (tail-forth a b l v.short v.bytes)

-- ---- from a text

record Spelled (l xs : List ℕ) : Type 0 where
  text : xs ≡ l ++ LF ∷ []
  some : 1 ≤ length l
  short : length l ≤ 16
  bytes : letters l ≡ length l

line-some : (l : List ℕ) → 1 ≤ length l → label_line l ≡ label_name ++ (l ++ LF ∷ [])
unfolding label_line
line-some [] h = absurd (omega arith)
line-some (x ∷ l) h = refl

-- what stands behind the rule, of a text in format f
record Tail (f : ℕ) (xs l : List ℕ) : Type 0 where
  text : xs ≡ label_line l
  format : f ≡ format_of (length l)
  short : length l ≤ 16
  bytes : letters l ≡ length l

tail-empty : Tail 1 [] []
unfolding label_line format_of letters first_where
tail-empty = record { text = refl; format = refl; short = omega arith; bytes = refl }

module _ {x : Setup} where
  spelled_back : (a b : ℕ) (xs : List ℕ) → spelled_in a b xs ≡ setup x → (a ≡ x.scheme) × (b ≡ x.rule) × Spelled x.label xs
  unfolding spelled_in well_spelled_lem letters
  spelled_back a b xs = go (well_spelled_lem xs) refl
    where
      go : (t : Bool) → well_spelled_lem xs ≡ t → cond t (setup (setup_of a b (take (letters xs) xs))) misfit ≡ setup x
          → (a ≡ x.scheme) × (b ≡ x.rule) × Spelled x.label xs
      go true w e =
          let n = letters xs in
          let l = x.label in
          let t1 = both_true _ _ w in
          let t2 = both_true _ _ t1.1 in
          let t3 = both_true _ _ t2.1 in
          let one = leb-true 1 n t1.0 in
          let most = leb-true n 16 t2.0 in
          let long = eqb-true (length xs) (suc n) t3.0 in
          let stop = eqb-true (get_or xs n 0) LF t3.1 in
          let q = same-setup e in
          let k : take n xs ≡ l = ap (λ (y : Setup). y.label) q in
          let m : length xs ≤ suc n = omega arith in
          let z : drop (suc n) xs ≡ [] = drop_of_length-le xs m in
          let ln : length l ≡ n = sym (ap length k) ∙ length-take-le n xs (omega arith) in (
            ap (λ (y : Setup). y.scheme) q,
            ap (λ (y : Setup). y.rule) q,
            record {
              text = split_at xs n 0 (omega arith) ∙ ap₂ (λ (s t : List ℕ). s ++ t) k (ap₂ (λ (c : ℕ) (t : List ℕ). c ∷ t) stop z);
              some = omega arith;
              short = omega arith;
              bytes = sym (ap letters k) ∙ run_take not_allowed_lem xs ∙ ap length k;
            },
          )
      go false w e = never refl e

  last-back : (a b : ℕ) (xs : List ℕ) → last_in a b xs ≡ setup x → (a ≡ x.scheme) × (b ≡ x.rule) × Tail 2 xs x.label
  unfolding last_in
  last-back a b xs = go (begins label_name xs) refl
    where
      go : (t : Bool) → begins label_name xs ≡ t → cond t (spelled_in a b (drop 6 xs)) misfit ≡ setup x
          → (a ≡ x.scheme) × (b ≡ x.rule) × Tail 2 xs x.label
      go true w e =
          let o = spelled_back a b (drop 6 xs) e in
          let s = o.2 in
          let l = x.label in (
            o.0,
            o.1,
            record {
              text = begins-is label_name xs w ∙ ap (λ (t : List ℕ). label_name ++ t) s.text ∙ sym (line-some l s.some);
              format = format-some (length l) (λ z. omega (arith, s.some));
              short = s.short;
              bytes = s.bytes;
            },
          )
      go false w e = never refl e

  end_back : (a b : ℕ) (xs : List ℕ) → end_in a b xs ≡ setup x → (a ≡ x.scheme) × (b ≡ x.rule) × Tail 1 xs x.label
  unfolding end_in
  end_back a b [] e =
      let q = same-setup e in
      (ap (λ (y : Setup). y.scheme) q, ap (λ (y : Setup). y.rule) q, subst (λ (y : Setup). Tail 1 [] y.label) q tail-empty)
  end_back a b (c ∷ xs) e = never refl e

  tail-back : (f a b : ℕ) (xs : List ℕ) → tail_in f a b xs ≡ setup x → (a ≡ x.scheme) × (b ≡ x.rule) × Tail f xs x.label
  unfolding tail_in
  tail-back f a b xs = go (eqb f 1) (eqb f 2) refl refl
    where
      go : (s t : Bool) → eqb f 1 ≡ s → eqb f 2 ≡ t → cond s (end_in a b xs) (cond t (last_in a b xs) misfit) ≡ setup x
          → (a ≡ x.scheme) × (b ≡ x.rule) × Tail f xs x.label
      go true t p q e = rw (eqb-true f 1 p) (end_back a b xs e)
      go false true p q e = rw (eqb-true f 2 q) (last-back a b xs e)
      go false false p q e = never refl e

  rule-back : (f a : ℕ) (r : Read) → rule_in f a r ≡ setup x
      → (a ≡ x.scheme) × (r ≡ number x.rule (label_line x.label)) × (is_rule_lem x.rule ≡ true) × Tail f (label_line x.label) x.label
  unfolding rule_in
  rule-back f a (number b xs) = go (is_rule_lem b) refl
    where
      go : (t : Bool) → is_rule_lem b ≡ t → cond t (tail_in f a b xs) misfit ≡ setup x
          → (a ≡ x.scheme) × (number b xs ≡ number x.rule (label_line x.label)) × (is_rule_lem x.rule ≡ true) × Tail f (label_line x.label) x.label
      go true q e =
          let o = tail-back f a b xs e in
          let t = o.2 in
          (o.0, ap₂ number o.1 t.text, rw o.1 at q, record { text = refl; format = t.format; short = t.short; bytes = t.bytes })
      go false q e = never refl e
  rule-back f a other = λ e. never refl e

  scheme-back : (f : ℕ) (r : Read) → scheme_in f r ≡ setup x
      → (f ≡ format_of (length x.label)) × (r ≡ number x.scheme (line rule_name x.rule ++ label_line x.label)) × Valid x
  unfolding scheme_in
  scheme-back f (number a xs) = go (is_scheme_lem a) refl
    where
      go : (t : Bool) → is_scheme_lem a ≡ t → cond t (rule_in f a (field_in rule_name xs)) misfit ≡ setup x
          → (f ≡ format_of (length x.label)) × (number a xs ≡ number x.scheme (line rule_name x.rule ++ label_line x.label)) × Valid x
      go true q e =
          let o = rule-back f a (field_in rule_name xs) e in
          let t = o.3 in (
            t.format,
            ap₂ number o.0 (line-back rule_name xs o.1).0,
            record { scheme = rw o.0 at q; rule = o.2; short = t.short; bytes = t.bytes },
          )
      go false q e = never refl e
  scheme-back f other = λ e. never refl e

  format_back : (reader : ℕ) (r : Read) → format_in reader r ≡ setup x
      → (format_of (length x.label) ≤ reader)
      × (r ≡ number (format_of (length x.label)) (line scheme_name x.scheme ++ (line rule_name x.rule ++ label_line x.label)))
      × Valid x
  unfolding format_in
  format_back reader (number f xs) = go (ltb reader f) refl
    where
      go : (t : Bool) → ltb reader f ≡ t → cond t (newer f) (scheme_in f (field_in scheme_name xs)) ≡ setup x
          → (format_of (length x.label) ≤ reader)
          × (number f xs ≡ number (format_of (length x.label)) (line scheme_name x.scheme ++ (line rule_name x.rule ++ label_line x.label)))
          × Valid x
      go true w e = let z : ◌≡◌ {A = ℕ} 0 1 = cc in absurd (omega arith)
      go false w e =
          let o = scheme-back f (field_in scheme_name xs) e in
          (omega (arith, ltb-false reader f w, o.0), ap₂ number o.0 (line-back scheme_name xs o.1).0, o.2)
  format_back reader other = λ e. never refl e

pub no_other : NoOther
unfolding reads text_of
no_other reader xs x e =
    let o = format_back reader (field_in format_name xs) e in
    record { text = (line-back format_name xs o.1).0; valid = o.2; format = o.0 }

-- ---- nothing else is told as a newer format

-- what names no newer format
record Quiet (r : Reading) : Type 0 where
  quiet : (n : ℕ) → r ≡ newer n → ⊥

quiet-setup : (x : Setup) → Quiet (setup x)
quiet-setup x = record { quiet = λ n e. let z : ◌≡◌ {A = ℕ} 0 1 = cc in omega arith }

quiet-misfit : Quiet misfit
quiet-misfit = record { quiet = λ n e. let z : ◌≡◌ {A = ℕ} 0 1 = cc in omega arith }

end_quiet : (a b : ℕ) (xs : List ℕ) → Quiet (end_in a b xs)
unfolding end_in
end_quiet a b [] = quiet-setup _
end_quiet a b (x ∷ xs) = quiet-misfit

last-quiet : (a b : ℕ) (xs : List ℕ) → Quiet (last_in a b xs)
unfolding last_in spelled_in
last-quiet a b xs =
    cond-all Quiet (begins label_name xs)
    (cond-all Quiet (well_spelled_lem (drop 6 xs)) (quiet-setup (setup_of a b (take (letters (drop 6 xs)) (drop 6 xs)))) quiet-misfit) quiet-misfit

rule-quiet : (f a : ℕ) (r : Read) → Quiet (rule_in f a r)
unfolding rule_in tail_in
rule-quiet f a (number b xs) =
    cond-all Quiet (is_rule_lem b)
    (cond-all Quiet (eqb f 1) (end_quiet a b xs) (cond-all Quiet (eqb f 2) (last-quiet a b xs) quiet-misfit)) quiet-misfit
rule-quiet f a other = quiet-misfit

scheme-quiet : (f : ℕ) (r : Read) → Quiet (scheme_in f r)
unfolding scheme_in
scheme-quiet f (number a xs) = cond-all Quiet (is_scheme_lem a) (rule-quiet f a (field_in rule_name xs)) quiet-misfit
scheme-quiet f other = quiet-misfit

pub newer-only : NewerOnly
unfolding reads format_in
newer-only reader xs n = go (field_in format_name xs) refl
  where
    go : (r : Read) → field_in format_name xs ≡ r → format_in reader r ≡ newer n → Newer reader xs n
    go (number f ys) p = pick (ltb reader f) refl
      where
        pick : (t : Bool) → ltb reader f ≡ t → cond t (newer f) (scheme_in f (field_in scheme_name ys)) ≡ newer n → Newer reader xs n
        pick true w e = let q : f ≡ n = cc in record { behind = ys; first = p ∙ ap (λ (k : ℕ). number k ys) q; above = omega (arith, ltb-true reader f w) }
        pick false w e = absurd ((scheme-quiet f (field_in scheme_name ys)).quiet n e)
    go other p = λ e. absurd (quiet-misfit.quiet n e)

-- ---- what follows

pub back : Back
back x v = text-read 2 (text_of x) x (record { text = refl; valid = v; format = format_small (length x.label) })

pub same_bytes : SameBytes
same_bytes x y v w = (λ e. same-setup (sym (back x v) ∙ ap (reads 2) e ∙ back y w), λ e. ap text_of e)

pub same-reading : SameReading
unfolding reads format_in
same-reading reader xs behind h e = rw (e, le-ltb reader 1 h)

pub older-tells : OlderTells
unfolding text_of
older-tells x h =
    let l = x.label in
    let rest = line scheme_name x.scheme ++ (line rule_name x.rule ++ label_line l) in
    newer-told 1 (text_of x) 2
    (record {
      behind = rest;
      first =
          line-forth format_name (format_of (length l)) rest (omega (arith, format_small (length l)))
          ∙ ap (λ (k : ℕ). number k rest) (sym (format-some (length l) (λ z. omega (arith, h))));
      above = omega arith;
    })

pub upgraded : Upgraded
upgraded xs x e =
    let i = no_other 1 xs x e in
    text-read 2 xs x (record { text = i.text; valid = i.valid; format = omega (arith, i.format) })
