-- Demand 3: one claim about a whole list of calls on one buffer. What carries it: each point's image is still there, but for the header's
-- index offset and times, so that a rollback to its offset finds it. The header's index offset is nowhere mentioned.
use mathlib.Core.List.{List}
use mathlib.Core.Logic.{◌≢◌}
use mathlib.Core.Path.{◌≡◌, refl, sym, ap, ◌∙◌, subst}
use Prim.Native.Nat.{ℕ, ◌^◌, ◌≤◌, ◌<◌}
use native.Mathlib.Omega.{arith}
use lib.ListN.{length, take}
use lib.IntN.{ℤ}
use lib.Seq.{length-take-le}
use Rattle.std.specs.Prelude.{Ok, Err}
use Rattle.format.specs.declared.Placed.{Placed}
use Rattle.format.specs.declared.Refusal.{Refusal}
use Rattle.format.specs.Lists.{All, done, more, IsBytes}
use Rattle.format.specs.Refusals.{Answer}
use Rattle.format.specs.Layouts.{header_length, index_offset}
use Rattle.format.specs.Reading.{read_at, read}
use Rattle.format.specs.Writing.{longest_buffer, Outcome, placed, set_header}
use Rattle.format.specs.Committing.{append, commit}
use Rattle.format.specs.RollingBack.{rollback}
use Rattle.format.specs.Histories.{Start, creates, imports, start_on, OfBytes, Call, commits, rolls_back, Point, Moment, reads, ReadTheSame, point_now, started, outcome_of, points_after, moment_after, after, at_end, Throughout, end, made, Permitted}
use Rattle.format.specs.Overlaying.{over, disc_over}
use Rattle.format.specs.Demands.{View, ReturnsTo, Unchanged, Effect, Promised, Distinct, nothing, fresh, Kept, KeptBy, Demand3, Demand3Over}
use Rattle.format.proofs.Overlaying.{over-child}
use Rattle.format.proofs.Lists.{all_map}
use Rattle.format.proofs.Checks.{Sound, rollback-ok}
use Rattle.format.proofs.Agree.{Agree, agree_refl, agree_trans, sound-agree, reads-agree}
use Rattle.format.proofs.Buffers.{outcome-accepted, outcome-passes, outcome-refused, length-set_header, bytes-set_header, index_offset-set, agree-set}
use Rattle.format.proofs.Committed.{Committed, commit-accepted, demand-2-committing}
use Rattle.format.proofs.Created.{Started, create-accepted}
use Rattle.format.proofs.Importing.{import-started}

-- ---- the invariant
-- the point's image is still there in x
pub record StillThere (x : List ℕ) (p : Point) : Type 0 where
  pub image : List ℕ
  pub sound : Sound image p.offset
  pub agree : Agree image x
  pub disc : (a : ℤ) → read_at image p.offset a ≡ p.disc a

pub record Inv (m : Moment) : Type 0 where
  pub long : length m.buffer ≤ longest_buffer
  pub inside : m.used ≤ length m.buffer
  pub bytes : IsBytes m.buffer
  pub points : All (StillThere (take m.used m.buffer)) m.points
  pub distinct : Distinct m.points

still-agree : {x y : List ℕ} → Agree x y → (p : Point) → StillThere x p → StillThere y p
still-agree {x} {y} g p k = record { image = k.image; sound = k.sound; agree = agree_trans k.image x y k.agree g; disc = k.disc }

-- a point that was just made
still-now : (buffer : List ℕ) (p : Placed) → index_offset (take p.used buffer) ≡ p.index.0 → Sound (take p.used buffer) p.index.0
    → StillThere (take p.used buffer) (point_now buffer p)
unfolding point_now read
still-now buffer p e s =
    let y : List ℕ = take p.used buffer in
    record { image = y; sound = s; agree = agree_refl y; disc = λ a. ap (λ n. read_at y n a) (sym e) }

module _ (m : Moment) (i : Inv m) where
  abbrev x : List ℕ
  x = take m.used m.buffer

  length-x : length x ≡ m.used
  length-x = length-take-le m.used m.buffer i.inside

  -- a point's offset lies in the image
  offset-inside : (p : Point) → StillThere x p → p.offset < m.used
  offset-inside p k = omega (arith, (sound-agree k.image x k.agree p.offset k.sound).opens.index.head, length-x)

  -- ---- (a)
  can-return : (time : ℕ) (p : Point) → StillThere x p → ReturnsTo (λ disc. disc) m p.offset time p
  unfolding rollback after outcome_of moment_after reads ReadTheSame read
  can-return time p k =
      let s : Sound x p.offset = sound-agree k.image x k.agree p.offset k.sound in
      let low : header_length ≤ m.used = omega (arith, s.opens.header.long, length-x) in
      let small : p.offset < 256 ^ 8 = omega (arith, offset-inside p k, i.inside, i.long) in
      let new : List ℕ = set_header m.buffer p.offset time in
      let v = (rollback-ok m.buffer m.used p.offset).1 (record { buffer_ok = record { long = i.long; inside = i.inside }; writable = record { opens = s.opens; first = s.first } }) in
      let e : rollback m.buffer m.used p.offset time ≡ record { result = Ok (placed m.used p.offset); buffer = new } =
      outcome-passes m.buffer _ (placed m.used p.offset) new v in
      let y : List ℕ = take m.used new in
      let g : Agree k.image y = agree_trans k.image x y k.agree (agree-set m.buffer m.used p.offset time i.inside) in
      record {
        accepts = ap (λ (w : Outcome Placed). w.result) e;
        same = λ a.
            ap (λ (w : Outcome Placed). reads (moment_after m (rolls_back p.offset time) w.result w.buffer) a) e
            ∙ ap (λ n. read_at y n a) (index_offset-set m.buffer m.used p.offset time low i.inside small)
            ∙ sym (reads-agree k.image y g p.offset k.sound a) ∙ k.disc a;
      }

-- ---- what a call leaves
after-refused : (m : Moment) (c : Call) (r : Refusal) → (outcome_of m c).result ≡ Err r
    → after m c ≡ record { buffer = (outcome_of m c).buffer; used = m.used; points = m.points }
unfolding after moment_after
after-refused m c r e = ap (λ (w : Answer Placed). moment_after m c w (outcome_of m c).buffer) e

after-accepted : (m : Moment) (c : Call) (p : Placed) → (outcome_of m c).result ≡ Ok p
    → after m c ≡ record { buffer = (outcome_of m c).buffer; used = p.used; points = points_after m.points c (outcome_of m c).buffer p }
unfolding after moment_after
after-accepted m c p e = ap (λ (w : Answer Placed). moment_after m c w (outcome_of m c).buffer) e

-- ---- (d)
refused-buffer : (m : Moment) (c : Call) (r : Refusal) → (outcome_of m c).result ≡ Err r → (outcome_of m c).buffer ≡ m.buffer
unfolding outcome_of commit append rollback
refused-buffer m (commits addresses size sectors time) r e = (outcome-refused _ _ _ _ r e).1
refused-buffer m (rolls_back offset time) r e = (outcome-refused _ _ _ _ r e).1

refused-same : (m : Moment) (c : Call) (r : Refusal) → (outcome_of m c).result ≡ Err r → after m c ≡ m
refused-same m c r e = after-refused m c r e ∙ (λ i. record { buffer = refused-buffer m c r e i; used = m.used; points = m.points })

unchanged : (m : Moment) (c : Call) (r : Refusal) → (outcome_of m c).result ≡ Err r → Unchanged m (after m c)
unchanged m c r e =
    record { buffer = ap (λ (n : Moment). n.buffer) (refused-same m c r e); used = ap (λ (n : Moment). n.used) (refused-same m c r e) }

-- ---- each call keeps its promise, and the invariant
effect : (m : Moment) → Inv m → (c : Call) → Effect (λ disc. disc) m c
unfolding Effect outcome_of reads
effect m i (rolls_back offset time) = all_map (λ p k e. subst (λ o. ReturnsTo (λ disc. disc) m o time p) e (can-return m i time p k)) i.points
effect m i (commits addresses size sectors time) = λ p e.
    rw (after-accepted m (commits addresses size sectors time) p e)
    (demand-2-committing m.buffer i.bytes m.used addresses size sectors time p e).disc

-- the same through a view in which an address shows what the disc reads there, and the sector if that is one
record Faithful (seen : View) : Type 0 where
  alike : (one other : ℤ → Answer (List ℕ)) (a : ℤ) → one a ≡ other a → seen one a ≡ seen other a
  sector : (disc : ℤ → Answer (List ℕ)) (a : ℤ) (d : List ℕ) → disc a ≡ Ok d → seen disc a ≡ Ok d

effect-seen : (seen : View) → Faithful seen → (m : Moment) (c : Call) → Effect (λ disc. disc) m c → Effect seen m c
unfolding Effect ReadTheSame
effect-seen seen f m (rolls_back offset time) k = all_map (λ p h e. record { accepts = (h e).accepts; same = λ a. f.alike _ _ a ((h e).same a) }) k
effect-seen seen f m (commits addresses size sectors time) k = λ p e.
    record { named = λ i l. f.sector _ _ _ ((k p e).named i l); others = λ a o. f.alike _ _ a ((k p e).others a o) }

promised : (seen : View) → Faithful seen → (m : Moment) → Inv m → (c : Call) → Promised seen m c
promised seen f m i c = record { effect = effect-seen seen f m c (effect m i c); unchanged = unchanged m c }

-- an accepted commit's index lies past every point's
distinct-new : (m : Moment) → Inv m → (o : ℕ) → m.used ≤ o → All (λ (q : Point). o ≢ q.offset) m.points
distinct-new m i o h = all_map (λ q k e. absurd (omega (arith, offset-inside m i q k))) i.points

inv-commit : (m : Moment) → Inv m → (addresses : List ℤ) (size : ℕ) (sectors : List ℕ) (time : ℕ) → IsBytes sectors → (p : Placed)
    → (commit m.buffer m.used addresses size sectors time).result ≡ Ok p → Inv (after m (commits addresses size sectors time))
unfolding outcome_of points_after point_now
inv-commit m i addresses size sectors time b p e =
    let c : Committed m.buffer m.used addresses size sectors p (commit m.buffer m.used addresses size sectors time).buffer =
    commit-accepted m.buffer i.bytes m.used addresses size sectors time p e in
    rw (after-accepted m (commits addresses size sectors time) p e)
    (record {
      long = omega (arith, i.long, c.same_length);
      inside = c.inside;
      bytes = c.bytes b;
      points = more (still-now _ p c.offset c.sound) (all_map (still-agree c.agree) i.points);
      distinct = fresh (distinct-new m i p.index.0 c.past) i.distinct;
    })

inv-rollback : (m : Moment) → Inv m → (offset time : ℕ) (p : Placed) → (rollback m.buffer m.used offset time).result ≡ Ok p
    → Inv (after m (rolls_back offset time))
unfolding outcome_of points_after rollback
inv-rollback m i offset time p e =
    let r = outcome-accepted _ _ _ _ p e in
    let k = (rollback-ok m.buffer m.used offset).0 r.passes in
    let long : header_length ≤ length m.buffer = omega (arith, k.writable.opens.header.long, length-x m i, i.inside) in
    let ls : length (set_header m.buffer offset time) ≡ length m.buffer = length-set_header m.buffer offset time in
    rw (after-accepted m (rolls_back offset time) p e, ← r.answer, r.buffer)
    (record {
      long = omega (arith, i.long);
      inside = omega (arith, i.inside);
      bytes = bytes-set_header m.buffer offset time long i.bytes;
      points = all_map (still-agree (agree-set m.buffer m.used offset time i.inside)) i.points;
      distinct = i.distinct;
    })

inv-accepted : (m : Moment) → Inv m → (c : Call) → Permitted m c → (p : Placed) → (outcome_of m c).result ≡ Ok p → Inv (after m c)
unfolding Permitted outcome_of
inv-accepted m i (commits addresses size sectors time) b p e = inv-commit m i addresses size sectors time b p e
inv-accepted m i (rolls_back offset time) h p e = inv-rollback m i offset time p e

inv-after : (m : Moment) → Inv m → (c : Call) → Permitted m c → Inv (after m c)
inv-after m i c h = go (outcome_of m c).result refl
  where
    go : (w : Answer Placed) → (outcome_of m c).result ≡ w → Inv (after m c)
    go (Err r) e = rw (refused-same m c r e) i
    go (Ok p) e = inv-accepted m i c h p e

-- ---- the whole list
kept : (seen : View) → Faithful seen → (m : Moment) (calls : List Call) → Inv m → Throughout Permitted m calls → Kept seen m calls
unfolding at_end
kept seen f m _ i end = record { promises = end; distinct = i.distinct }
kept seen f m _ i (made {c = c} {cs = cs} h hs) =
    let r = kept seen f (after m c) cs (inv-after m i c h) hs in
    record { promises = made (promised seen f m i c) r.promises; distinct = r.distinct }

inv-started : (buffer : List ℕ) (p : Placed) → Started p buffer → Inv (started buffer p)
unfolding started
inv-started buffer p c =
    record {
      long = c.long;
      inside = c.inside;
      bytes = c.bytes;
      points = more (still-now buffer p c.offset c.sound) done;
      distinct = fresh done nothing;
    }

start-accepted : (buffer : List ℕ) → IsBytes buffer → (s : Start) → OfBytes s → (p : Placed) → (start_on buffer s).result ≡ Ok p → Started p (start_on buffer s).buffer
unfolding start_on OfBytes
start-accepted buffer b (creates count application major minor mediaType creationTime lastWrittenTime) ba p e =
    create-accepted buffer b count application ba major minor mediaType creationTime lastWrittenTime p e
start-accepted buffer b (imports file size application major minor mediaType creationTime lastWrittenTime) h p e =
    import-started buffer b file size application h.1 major minor mediaType creationTime lastWrittenTime p e h.0

kept_by : (seen : View) → Faithful seen → KeptBy seen
kept_by seen f buffer b s h p e calls permitted = kept seen f _ calls (inv-started _ p (start-accepted buffer b s h p e)) permitted

pub demand-3 : Demand3
demand-3 = kept_by (λ disc. disc) (record { alike = λ one other a e. e; sector = λ disc a d e. e })

pub demand-3-over : Demand3Over
unfolding disc_over
demand-3-over parent =
    kept_by (disc_over parent) (record {
      alike = λ one other a e. ap (λ (x : Answer (List ℕ)). over x (read parent a)) e;
      sector = λ disc a d e. ap (λ (x : Answer (List ℕ)). over x (read parent a)) e ∙ over-child d (read parent a);
    })
