-- Hints and key entries by the scheme.
--   counted          a count and a bound under another name
--   hints-counted, keys-counted, peers-counted   as many as the scheme has, and each within its bits; slacks-long: as many
--   own_hints        for `settle::keys`
use Rattle.lists.proofs.Kit.{refl, ◌∙◌, sym, ap, subst, List, ℕ, length, length-replicate}
use Rattle.std.proofs.Common.{◌≡◌, ◌^◌}
use Rattle.schemes.specs.{Schemes.family_of, Schemes.fixed_of, declared.Scheme.Scheme}
use Rattle.lists.specs.Ranges.{Below}
use Rattle.values.specs.{Fit.Counted, Keys.interval, Keys.hints, Keys.keys, Keys.peers, Keys.slacks}
use Rattle.values.proofs.Numbers.{numbers_of, in-each}
use Rattle.bcns.proofs.Entries as bcns
use Rattle.newhope.proofs.Groups as newhope
use Rattle.frodo.proofs.Entries as frodo-laws

pub counted : {m n q r : ℕ} {xs : List ℕ} → m ≡ n → q ≡ r → Counted m q xs → Counted n r xs
counted {xs = xs} d e h = record { long = h.long ∙ d; below = subst (λ (q : ℕ). Below q xs) e h.below }

-- a count and a number of bits under another name
bits : {m n b c : ℕ} {xs : List ℕ} → m ≡ n → b ≡ c → Counted m (2 ^ b) xs → Counted n (2 ^ c) xs
bits d e = counted d (ap (λ (b : ℕ). 2 ^ b) e)

-- ---- as many as the scheme has

module _ (c : Scheme) (cs v : List ℕ) (l : length v ≡ (fixed_of c).mixed) where
  pub hints-counted : Counted (fixed_of c).mixed (2 ^ (fixed_of c).hintbits) (hints c cs v)
  unfolding hints
  hints-counted =
      in-each (Counted (fixed_of c).mixed (2 ^ (fixed_of c).hintbits)) (family_of c) (numbers_of c)
      (λ k. bits refl (sym k.hintbits) (record { long = bcns.hints-length cs v ∙ l; below = bcns.hints-below cs v }))
      (λ k. bits (sym k.mixed) (sym k.hintbits) (record { long = newhope.hints-length cs v; below = newhope.hints-below cs v }))
      (λ k. bits refl (sym k.hintbits) (record { long = frodo-laws.hints-length (interval c) v ∙ l; below = frodo-laws.hints-below (interval c) v }))

  abbrev Entries : List ℕ → Type 0
  Entries = Counted (fixed_of c).groups (2 ^ (fixed_of c).keybits)

  -- entries of BCNS's and Frodo's values, of which there are as many as groups
  pub keys-counted : Counted (fixed_of c).groups (2 ^ (fixed_of c).keybits) (keys c cs v)
  unfolding keys
  keys-counted =
      let b = (fixed_of c).keybits in
      in-each Entries (family_of c) (numbers_of c)
      (λ k. bits (k.mixed ∙ sym k.groups) (sym k.keybits) (record { long = bcns.keys_length cs v ∙ l; below = bcns.keys_below cs v }))
      (λ k. bits (sym k.groups) (sym k.keybits) (record { long = newhope.keys_length cs v; below = newhope.keys_below cs v }))
      (λ k.
      bits (k.mixed ∙ sym k.groups) refl
      (record { long = frodo-laws.keys_length (interval c) b v ∙ l; below = frodo-laws.keys_below (interval c) b v }))

  -- cs are the hints, v the initiator's value
  pub peers-counted : Counted (fixed_of c).groups (2 ^ (fixed_of c).keybits) (peers c cs v)
  unfolding peers
  peers-counted =
      let b = (fixed_of c).keybits in
      in-each Entries (family_of c) (numbers_of c)
      (λ k. bits (k.mixed ∙ sym k.groups) (sym k.keybits) (record { long = bcns.peers-length cs v ∙ l; below = bcns.peers-below cs v }))
      (λ k. bits (sym k.groups) (sym k.keybits) (record { long = newhope.peers-length cs v; below = newhope.peers-below cs v }))
      (λ k.
      bits (k.mixed ∙ sym k.groups) refl
      (record { long = frodo-laws.peers-length (interval c) b cs v ∙ l; below = frodo-laws.peers-below (interval c) b cs v }))

  pub slacks-long : length (slacks c cs v) ≡ (fixed_of c).mixed
  unfolding slacks
  slacks-long =
      in-each (λ (xs : List ℕ). length xs ≡ (fixed_of c).mixed) (family_of c) (numbers_of c)
      (λ k. bcns.slacks-length cs v ∙ l)
      (λ k. length-replicate (length v) 0 ∙ l)
      (λ k. frodo-laws.slacks-length (interval c) (fixed_of c).keybits cs v ∙ l)

-- NewHope's keys are the bits of its own hints, which are 1,024 below 4
pub ruleset own_hints = (newhope.own_keys, newhope.hints-length, newhope.hints-below)
