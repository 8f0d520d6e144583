-- answer.
--   answer-sized                 what passed sizes say: lengths and rooms
--   answer-decides               its verdict where Grow has not refused: the table's, or Reply's
--   answer-unordered, answer-drawn   what is seen of Reply by public numbers: where the table is refused, and where it is not
--   seed-taken, seed-long        the seed of NewHope's opening, as the code lends it
--   answer-passed, answer-grows, answer-ran-out   what is seen of answer where Grow has not refused, and where the opening or Grow's bytes are
--   answer-newhope, sized-newhope   the same of a scheme of which no public numbers are lent
--   answer-unknown, answer-failed   what is seen of answer where no scheme is named, and where lengths or rooms are refused
use Rattle.std.proofs.Common.{Ok, Err, Some, None, Option, ◌≡◌, ◌+◌, ◌-◌, ◌≤◌}
use Rattle.noise.specs.declared.RuleName.{RuleName}
use Rattle.lists.proofs.Kit.{refl, ◌∙◌, sym, ap, List, [], ℕ, arith, ℤ, length, replicate, take, drop}
use Rattle.schemes.specs.{Schemes.fixed_of, declared.Scheme.Scheme, declared.Fixed.Fixed, declared.Scheme.TheVariants.NewHope}
use Rattle.schemes.proofs.Laws.{tied}
use Rattle.lists.specs.Ranges.{Below}
use Rattle.lists.proofs.{Parts.part-long, Same.empty}
use Rattle.refusals.specs.Refusals.{◌then◌, publics_in_lem, not_blank_lem, received_in, pass}
use Rattle.refusals.specs.{declared.Refusal.Refusal, declared.Refusal.TheVariants.NoScheme, Refusals.Verdict}
use Rattle.refusals.proofs.Laws.{both, all_pass, length-passed, length-passes, room-passed, room-passes, within-passes, last-passes, failed, went_on}
use Rattle.sampling.specs.Expand.{grow_numbers}
use Rattle.wire.specs.{Wire.seed_in, Steps.reply_secrets_lem}
use Rattle.reply.specs.Reply.{Reply, ReplyRooms, ReplySeen, reply, opened_of, replied_part, reply_tests, reply_shown, reply_result, reply_told, reply_seen}
use Rattle.reply.specs.{Inside.reply_lengths_lem, Inside.reply_last, Inside.reply_rest}
use Rattle.reply.proofs.Replying.{reply-rest-decides, reply-refused}
use Rattle.exchange.specs.Random.{secret_bytes, mixed_bytes, public_from, cut, table_order, grown}
use Rattle.exchange.specs.Inside.{Drew, AnswerSized, drawn_answers, came_in, answer_sizes_lem}
use Rattle.exchange.specs.Answer.{AnswerLent, answer_lent, drawn_reply, answer_reply, answer_tests, answer_result}
use Rattle.exchange.proofs.Grown.{lent-passed, no_table, no-publics, public-passes, only-newhope}
use Rattle.exchange.proofs.Drawn.{draws-secret, draws-mixed, drawn-small}

-- ---- its tests

pub answer-sized : (c : Scheme) (k : Option RuleName) (x : AnswerLent) (m : ReplyRooms) → answer_sizes_lem c k x m ≡ pass → Below 256 x.random → AnswerSized c k x m
unfolding answer_sizes_lem
answer-sized c k x m t b =
    let digest = both _ _ t in
    let key = both _ _ digest.0 in
    let message = both _ _ key.0 in
    let l = lent-passed _ c k x.a x.table x.random _ b message.0 in
    let opening = both _ _ l.0 in
    record {
      sizes = t;
      lent = l.1 opening.0;
      opening-long = length-passed _ _ opening.1;
      roomy = room-passed _ _ message.1;
      key-roomy = room-passed _ _ key.1;
      digest-roomy = room-passed _ _ digest.1;
    }

abbrev seed_of : Scheme → AnswerLent → List ℕ
seed_of c x = seed_in c x.opening

chain : {S G : Verdict} (T P M B N : Verdict) → S ≡ pass → G ≡ pass → S then T then P then M then B then G then N ≡ T then (P then (M then B then N))
unfolding ◌then◌
chain (Ok _) (Ok _) M B N s e = rw (s, e, last-passes (M then B))
chain (Err r) P M B N s e = rw s
chain (Ok _) (Err r) M B N s e = rw s

chain-fails : {S T P : Verdict} (M B G N : Verdict) {r : Refusal} → S ≡ pass → T ≡ pass → P ≡ pass → M then B then G ≡ Err r
    → S then T then P then M then B then G then N ≡ Err r
unfolding ◌then◌
chain-fails M B G N s e f g = rw (s, e, f) (failed N refl g)

-- ---- Reply

module _ {c : Scheme} {k : Option RuleName} {x : AnswerLent} {m : ReplyRooms} (z : AnswerSized c k x m) where
  pub answer-decides : grown c k (seed_of c x) ≡ pass
      → answer_tests (Some c) k x m ≡ table_order c x.table then reply_tests (Some c) (answer_reply (Some c) k x) m
  unfolding answer_tests answer_sizes_lem reply_lengths_lem reply_rest reply_last reply_secrets_lem received_in opened_of drawn_reply answer_reply
  answer-decides g =
      let n = secret_bytes c in
      let i = mixed_bytes c in
      let l = z.lent in
      let first : 0 + n ≤ length x.random = omega (arith, l.random-long) in
      let second : n + n ≤ length x.random = omega (arith, l.random-long) in
      let third : n + n + i ≤ length x.random = omega (arith, l.random-long) in
      let fourth : n + n + i + (fixed_of c).coins ≤ length x.random = omega (arith, l.random-long) in
      let s = drawn-small (draws-secret c first l.table-long refl (sym (tied c).noise)) l.bytes in
      let e = drawn-small (draws-secret c second l.table-long refl refl) l.bytes in
      let f = drawn-small (draws-mixed c third l.table-long refl refl) l.bytes in
      let p = public-passes c k (seed_of c x) x.a l.ruled l.public-long g in
      let small = all_pass (all_pass (within-passes s.within) (within-passes e.within)) (within-passes f.within) in
      let sizes =
      all_pass
      (all_pass
      (all_pass
      (all_pass
      (all_pass
      (all_pass (all_pass (all_pass (length-passes z.opening-long) (length-passes p.long)) (length-passes s.long)) (length-passes e.long))
      (length-passes f.long))
      (length-passes (part-long (n + n + i) (fixed_of c).coins x.random fourth)))
      (room-passes z.roomy))
      (room-passes z.key-roomy))
      (room-passes z.digest-roomy) in
      let y = answer_reply (Some c) k x in
      let T = table_order c x.table in
      let P = publics_in_lem (fixed_of c).q y.a in
      let C = came_in c x.opening in
      let replies = reply-rest-decides c y m sizes refl ∙ ap (λ (w : Verdict). P then (C then w)) (went_on _ refl small) in
      chain T _ _ _ _ z.sizes g
      ∙ ap (λ (w : Verdict). T then (w then (C then not_blank_lem (replied_part c y.a y.s' y.e')))) p.alike
      ∙ ap (λ (w : Verdict). T then w) (sym replies)

-- by public numbers, which x has
module _ (c : Scheme) (x : AnswerLent) (m : ReplyRooms) {v : Verdict} (o : v ≡ table_order c x.table) where
  pub answer-unordered : {r : Refusal} {message key digest : List ℕ} → v ≡ Err r → message ≡ replicate m.message 0 → key ≡ replicate m.key 0
      → digest ≡ replicate m.digest 0 → reply_seen (reply_told (Err r)) message key digest ≡ drawn_answers c x m
  answer-unordered f p q s = reply-refused _ _ _ m (failed _ o f) p q s

  module _ {f : Fixed} (d : f ≡ fixed_of c) {k l : ℕ} (b : (k ≡ secret_bytes c) × (l ≡ mixed_bytes c)) (j : length x.random ≡ k + k + l + f.coins)
      {old new last s' e' e'' : List ℤ}
      (g : table_order c x.table ≡ pass → Drew c f.noise x.table (cut 0 k x.random) old s')
      (h : table_order c x.table ≡ pass → Drew c f.noise x.table (cut k k x.random) new e')
      (i : table_order c x.table ≡ pass → Drew c f.mixed x.table (cut (k + k) l x.random) last e'') where
    abbrev lent : Reply
    lent =
        reply x.opening x.a (take f.noise s') (take f.noise e') (take f.mixed e'')
        (take (length x.random - (k + k + l)) (drop (k + k + l) x.random))

    drawn-is : v ≡ pass → lent ≡ drawn_reply c x.a x
    unfolding drawn_reply
    drawn-is t =
        let w = sym o ∙ t in
        let coins : length x.random - (k + k + l) ≡ f.coins = omega (arith, j) in
        rw ((g w).front, (h w).front, (i w).front, coins, b.0, b.1, d)

    pub answer-drawn : {n : Option Scheme} {u : ReplySeen} → v ≡ pass → n ≡ Some c → u ≡ reply_result n lent m → u ≡ drawn_answers c x m
    answer-drawn t e p = rw (e, drawn-is t) at p ∙ ap (λ (w : Verdict). reply_shown w (Some c) (drawn_reply c x.a x) m) (sym (went_on _ o t))

-- ---- by lent or grown public numbers

pub seed-taken : (opening : List ℕ) → length opening ≡ 1824 → take (length opening - 1792) (drop 1792 opening) ≡ seed_in NewHope opening
unfolding seed_in
seed-taken opening l = ap (λ (n : ℕ). take (n - 1792) (drop 1792 opening)) l

pub seed-long : (opening : List ℕ) → length opening ≡ 1824 → length (seed_in NewHope opening) ≡ 32
unfolding seed_in
seed-long opening l = part-long 1792 32 opening (omega arith)

pub answer-passed : {c : Scheme} {k : Option RuleName} {x : AnswerLent} {m : ReplyRooms} {a : List ℕ} {u : ReplySeen} → AnswerSized c k x m
    → grown c k (seed_of c x) ≡ pass → a ≡ public_from c k (seed_of c x) x.a
    → u ≡ drawn_answers c (answer_lent x.opening a x.table x.random) m → u ≡ answer_result (Some c) k x m
unfolding drawn_reply answer_reply
answer-passed z g e p = rw (answer-decides z g, ← e) p

pub answer-grows : {k : Option RuleName} {x : AnswerLent} {m : ReplyRooms} {a : List ℕ} {v : Verdict} {u : ReplySeen} → AnswerSized NewHope k x m
    → v ≡ came_in NewHope x.opening then grown NewHope k (seed_of NewHope x) → v ≡ pass → (v ≡ pass → a ≡ grow_numbers k (seed_of NewHope x))
    → u ≡ drawn_answers NewHope (answer_lent x.opening a x.table x.random) m → u ≡ answer_result (Some NewHope) k x m
unfolding public_from
answer-grows z o e g p = answer-passed z (both _ _ (sym o ∙ e)).1 (g e) p

pub answer-ran-out : {k : Option RuleName} {x : AnswerLent} {m : ReplyRooms} {v : Verdict} {r : Refusal} {message key digest : List ℕ} → AnswerSized NewHope k x m
    → v ≡ came_in NewHope x.opening then grown NewHope k (seed_of NewHope x) → v ≡ Err r
    → message ≡ replicate m.message 0 → key ≡ replicate m.key 0 → digest ≡ replicate m.digest 0
    → reply_seen (reply_told (Err r)) message key digest ≡ answer_result (Some NewHope) k x m
unfolding answer_tests answer_sizes_lem received_in opened_of drawn_reply answer_reply
answer-ran-out {k} {x} {m} {r = r} z o f p q s =
    let none : publics_in_lem 12289 x.a ≡ pass = rw (empty x.a z.lent.public-long) (no-publics 12288) in
    let t : answer_tests (Some NewHope) k x m ≡ Err r = chain-fails _ _ _ _ z.sizes (no_table x.table) none (sym o ∙ f) in
    reply-refused _ _ _ m t p q s

module _ {c : Scheme} {k : Option RuleName} {opening a table random : List ℕ} {m : ReplyRooms} (z : AnswerSized c k (answer_lent opening a table random) m)
    (e : length a ≡ 0) where
  pub sized-newhope : AnswerSized NewHope k (answer_lent opening [] table random) m
  sized-newhope = rw (only-newhope c (sym z.lent.public-long ∙ e), empty a e) at z

  pub answer-newhope : {u : ReplySeen} → u ≡ answer_result (Some NewHope) k (answer_lent opening [] table random) m
      → u ≡ answer_result (Some c) k (answer_lent opening a table random) m
  answer-newhope p = rw (only-newhope c (sym z.lent.public-long ∙ e), empty a e) p

-- ---- what is seen

module _ {message key digest : List ℕ} (k : Option RuleName) (x : AnswerLent) (m : ReplyRooms) (o : message ≡ replicate m.message 0) (y : key ≡ replicate m.key 0)
    (z : digest ≡ replicate m.digest 0) where
  pub answer-failed : (c : Scheme) {r : Refusal} → Err r ≡ answer_sizes_lem c k x m
      → reply_seen (reply_told (Err r)) message key digest ≡ answer_result (Some c) k x m
  unfolding answer_tests answer_sizes_lem
  answer-failed c e =
      reply-refused _ _ _ m (failed _ refl (failed _ refl (failed _ refl (failed _ refl (failed _ refl (failed _ e refl)))))) o y z

  pub answer-unknown : {c : Option Scheme} → c ≡ None → reply_seen (reply_told (Err NoScheme)) message key digest ≡ answer_result c k x m
  unfolding answer_tests answer_sizes_lem
  answer-unknown {c} u = let t : answer_tests c k x m ≡ Err NoScheme = rw u in reply-refused _ _ _ m t o y z
