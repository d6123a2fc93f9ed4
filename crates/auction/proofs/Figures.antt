-- The worked cases hold: each computes.
use Rattle.std.proofs.Common.{◌≡◌, ℕ, zero, suc, ◌+◌, ◌<◌, Bool, true, false, ◌&&◌, eqb, ltb, leb, List, [], ◌∷◌, length, get_or, ℤ, pos, neg_ℤ, ◌≤ℤ◌, Some, None, Option, refl, subst, arith}
use borrow.Author.Differences.{ints, le-true}
use lib.Signed.{le_z}
use Rattle.std.proofs.lemmas.Bool.{and_parts, both_ways, eqb-true, leb-true, ltb-true}
use Rattle.points.specs.Tables.{Table, Lawful}
use Rattle.points.specs.Nets.{scaled}
use Rattle.points.specs.Plans.{total}
use Rattle.points.specs.Limits.{top_limit}
use Rattle.auction.specs.Limits.{phase_limit, increment_limit}
use Rattle.auction.specs.Markets.{Market, plan_of}
use Rattle.auction.specs.Bids.{ceiling, depth}
use Rattle.auction.specs.Events.{Event, Step}
use Rattle.auction.specs.Runs.{Run, FallsToOne, Ladder, Opened}
use Rattle.auction.specs.Figures.{Case, leads, completes, delivers, table_of, opening, waiting, Leads, Completes, CaseHolds, AllHold, figures}
use Rattle.auction.proofs.Sound.{Sound}
use Rattle.auction.proofs.Holders.{none_some}
use Rattle.auction.proofs.Lands as Lands
use Rattle.auction.proofs.Displaces.{playable}
use Rattle.auction.proofs.Plays.{follows, next, plays_step, plays, ends, seated, seated_all}
use Rattle.auction.proofs.Stands.{step_sound}

-- points from -top to top
abbrev fair : Option ℤ → Bool
fair None = true
fair (Some p) = le_z (neg_ℤ (pos top_limit)) p && le_z p (pos top_limit)

abbrev fair_row : List (Option ℤ) → Bool
fair_row [] = true
fair_row (o ∷ os) = fair o && fair_row os

-- rows of at most n such points
abbrev fair_rows : ℕ → List (List (Option ℤ)) → Bool
fair_rows n [] = true
fair_rows n (row ∷ rows) = (leb (length row) n && fair_row row) && fair_rows n rows

Between : ℤ → Type 0
Between p = (neg_ℤ (pos top_limit) ≤ℤ p) × (p ≤ℤ pos top_limit)

fair_between : (o : Option ℤ) (p : ℤ) → fair o ≡ true → o ≡ Some p → Between p
unfolding Between
fair_between None p f e = none_some None p refl e
fair_between (Some q) p f e =
    let (a, b) = and_parts (le_z (neg_ℤ (pos top_limit)) q) (le_z q (pos top_limit)) f in
    let same : q ≡ p = cc in
    let low : neg_ℤ (pos top_limit) ≤ℤ q = omega (arith, ints, le-true (neg_ℤ (pos top_limit)) q a) in
    let high : q ≤ℤ pos top_limit = omega (arith, ints, le-true q (pos top_limit) b) in
    subst (λ (z : ℤ). (neg_ℤ (pos top_limit) ≤ℤ z) × (z ≤ℤ pos top_limit)) same (low, high)

in_row : (row : List (Option ℤ)) (k : ℕ) (p : ℤ) → fair_row row ≡ true → get_or row k None ≡ Some p → (k < length row) × Between p
in_row [] k p f e = none_some None p refl e
in_row (o ∷ os) zero p f e = (omega arith, fair_between o p (and_parts (fair o) (fair_row os) f).0 e)
in_row (o ∷ os) (suc k) p f e = let (a, b) = in_row os k p (and_parts (fair o) (fair_row os) f).1 e in (omega arith, b)

in_rows : (n : ℕ) (rows : List (List (Option ℤ))) (i k : ℕ) (p : ℤ) → fair_rows n rows ≡ true → get_or (get_or rows i []) k None ≡ Some p → (i < length rows) × (k < n) × Between p
in_rows n [] i k p f e = none_some None p refl e
in_rows n (row ∷ rows) zero k p f e =
    let (g, h) = and_parts (leb (length row) n && fair_row row) (fair_rows n rows) f in
    let (c, d) = and_parts (leb (length row) n) (fair_row row) g in
    let (a, b) = in_row row k p d e in
    (omega arith, omega (arith, leb-true (length row) n c), b)
in_rows n (row ∷ rows) (suc i) k p f e =
    let (a, b, c) = in_rows n rows i k p (and_parts (leb (length row) n && fair_row row) (fair_rows n rows) f).1 e in
    (omega arith, b, c)

lawful : (rows : List (List (Option ℤ))) → fair_rows (length rows) rows ≡ true → Lawful (table_of rows)
unfolding Between
lawful rows f = record {
  runs = λ i k p e. (in_rows (length rows) rows i k p f e).0;
  seats = λ i k p e. (in_rows (length rows) rows i k p f e).1;
  low = λ i k p e. (in_rows (length rows) rows i k p f e).2.0;
  high = λ i k p e. (in_rows (length rows) rows i k p f e).2.1;
}

plays_run : (t : Table) (cs : List Event) (m : Market) → Lawful t → Sound t m → plays t cs m ≡ true → Run t cs m (ends t cs m)
plays_run t [] m l d e = refl
plays_run t (c ∷ cs) m l d e =
    let (a, b) = and_parts _ _ e in
    let s : Step t c m (next t c m) = plays_step t c m l (playable t m l d) a in
    (next t c m, s, plays_run t cs (next t c m) l (step_sound t c m (next t c m) l s d) b)

opens : (first : ℕ) (later : List ℕ) → Ladder first later → Opened (opening first later)
opens first later h = record {
  ladder = h;
  some = omega arith;
  allowance = omega arith;
  price = λ k. refl;
  seat = λ i. refl;
  bid = λ i. refl;
  shown = λ i k. refl;
  mark = refl;
  phase = refl;
  high = refl;
  composed = refl;
  accepted = refl;
  outbid = refl;
  recalled = refl;
  phase_accepted = refl;
}

-- increments that make a ladder
abbrev falling : ℕ → List ℕ → Bool
falling e [] = eqb e 1
falling e (x ∷ xs) = ltb x e && falling x xs

falling_falls : (e : ℕ) (xs : List ℕ) → falling e xs ≡ true → FallsToOne e xs
falling_falls e [] h = eqb-true e 1 h
falling_falls e (x ∷ xs) h = let (a, b) = and_parts _ _ h in (ltb-true x e a, falling_falls x xs b)

abbrev climbs : ℕ → List ℕ → Bool
climbs first later = falling first later && (leb (length later + 1) phase_limit && leb first increment_limit)

ladder : (first : ℕ) (later : List ℕ) → climbs first later ≡ true → Ladder first later
ladder first later h =
    let (a, b) = and_parts _ _ h in
    let (c, d) = and_parts _ _ b in
    record { falls = falling_falls first later a; few = leb-true (length later + 1) phase_limit c; small = leb-true first increment_limit d }

abbrev final : List (List (Option ℤ)) → ℕ → List ℕ → List Event → Market
final rows first later cs = ends (table_of rows) cs (opening first later)

abbrev led : List (List (Option ℤ)) → ℕ → List ℕ → List Event → Bool
led rows first later cs = fair_rows (length rows) rows && (climbs first later && plays (table_of rows) cs (opening first later))

abbrev none_left : List ℕ → Bool
none_left [] = true
none_left (e ∷ es) = false

none_left_is : (es : List ℕ) → none_left es ≡ true → es ≡ []
none_left_is [] h = refl
none_left_is (e ∷ es) h = absurd (both_ways false refl h)

abbrev done : Table → Market → ℤ → Bool
done t m z = seated m t.size && (none_left m.later && (le_z (total t (plan_of m)) z && le_z z (total t (plan_of m))))

abbrev passes : Case → Bool
passes (leads rows first later cs) = led rows first later cs
passes (completes rows first later cs z) = led rows first later cs && done (table_of rows) (final rows first later cs) z
passes (delivers e price offer c) = follows (table_of ((Some (pos 0) ∷ []) ∷ [])) c (waiting e price offer)

module _ (rows : List (List (Option ℤ))) (first : ℕ) (later : List ℕ) (cs : List Event) (h : led rows first later cs ≡ true) where
  parts : (fair_rows (length rows) rows ≡ true) × (climbs first later ≡ true) × (plays (table_of rows) cs (opening first later) ≡ true)
  parts =
      let (a, e) = and_parts (fair_rows (length rows) rows) (climbs first later && plays (table_of rows) cs (opening first later)) h in
      let (b, c) = and_parts (climbs first later) (plays (table_of rows) cs (opening first later)) e in
      (a, b, c)

  fits : Lawful (table_of rows)
  fits = lawful rows parts.0

  starts : Opened (opening first later)
  starts = opens first later (ladder first later parts.1)

  abbrev led_leads : Leads (table_of rows) (opening first later) cs
  led_leads = record {
    lawful = fits;
    opened = starts;
    final = final rows first later cs;
    run = plays_run (table_of rows) cs (opening first later) fits (Lands.opened (table_of rows) (opening first later) starts) parts.2;
  }

  done_completes : (z : ℤ) → done (table_of rows) (final rows first later cs) z ≡ true → Completes (table_of rows) (opening first later) cs z
  done_completes z e =
      let m : Market = final rows first later cs in
      let worth : ℤ = total (table_of rows) (plan_of m) in
      let (all, e₁) = and_parts (seated m (length rows)) (none_left m.later && (le_z worth z && le_z z worth)) e in
      let (last, e₂) = and_parts (none_left m.later) (le_z worth z && le_z z worth) e₁ in
      let (a, b) = and_parts (le_z worth z) (le_z z worth) e₂ in
      record {
        leads = led_leads;
        seated = seated_all m (length rows) all;
        last = none_left_is m.later last;
        total = omega (arith, ints, le-true worth z a, le-true z worth b);
      }

holds : (c : Case) → passes c ≡ true → CaseHolds c
holds (leads rows first later cs) h = led_leads rows first later cs h
holds (completes rows first later cs z) h = let (a, b) = and_parts _ _ h in done_completes rows first later cs a z b
holds (delivers e price offer c) h =
    let t : Table = table_of ((Some (pos 0) ∷ []) ∷ []) in
    let m : Market = waiting e price offer in (
      next t c m,
      plays_step t c m (lawful ((Some (pos 0) ∷ []) ∷ []) refl) (record {
        low = λ i k g. none_some None k refl g;
        single = λ i j k g f. none_some None k refl g;
        shown = λ i k. omega arith;
      }) h,
    )

abbrev all_pass : List Case → Bool
all_pass [] = true
all_pass (c ∷ cs) = passes c && all_pass cs

all_hold : (cs : List Case) → all_pass cs ≡ true → AllHold cs
all_hold [] h = tt
all_hold (c ∷ cs) h = let (a, b) = and_parts _ _ h in (holds c a, all_hold cs b)

pub figures_hold : AllHold figures
unfolding scaled ceiling depth
figures_hold = all_hold figures refl
