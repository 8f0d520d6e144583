-- After `each::set_each`.
--   made_whole   a list of known length whose entries are known is a table
use Rattle.lists.proofs.Kit.{◌∙◌, sym, ap, List, ℕ, length, get_or}
use Rattle.std.proofs.Common.{◌≡◌, ◌<◌}
use Rattle.lists.specs.Entries.{tab}
use Rattle.lists.proofs.{Entries.tab-ext, Entries.tab-getD}

pub made_whole : {n : ℕ} (out : List ℕ) (f : ℕ → ℕ) → length out ≡ n → ((k : ℕ) → k < n → get_or out k 0 ≡ f k) → out ≡ tab n f
made_whole out f e h = sym (tab-getD out 0) ∙ ap (λ (n : ℕ). tab n (λ k. get_or out k 0)) e ∙ tab-ext _ _ _ h
