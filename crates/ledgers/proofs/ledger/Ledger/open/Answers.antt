use Rattle.std.proofs.Common.{◌≡◌, ℕ, leb, ◌∷◌, length, get_or, drop, replicate, sym, refl, ap, ◌∙◌, subst, arith, rules}
use Rattle.std.proofs.lemmas.Bool.{leb-true, and_parts}
use Rattle.ledgers.specs.declared.books.Book.{Book}
use Rattle.ledgers.specs.declared.books.Conditions.{Conditions}
use Rattle.points.specs.Limits.{size_limit}
use Rattle.auction.specs.Limits.{allowance_limit}
use Rattle.auction.specs.Runs.{Opened}
use Rattle.ledgers.specs.Books.{blank, increment_of, ladder_of}
use Rattle.ledgers.specs.Ledgers.{view_of, unshown}
use Rattle.ledgers.proofs.Entries.{same, empty_some}
use Rattle.ledgers.proofs.Ladders.{Passed, passed}
use Rattle.ledgers.proofs.Views.{opened_view}
use Rattle.ledgers.proofs.ledger.Ledger.open.Goals as goal

pub invariant_of-result : goal.invariant_of-result
invariant_of-result c =
    let p = c.in_ok-check_start.ensures in
    let xs = c.args.ladder.now in
    let size = and_parts (leb 1 c.args.size) (leb c.args.size size_limit) p.0 in
    let allowed = and_parts (leb 1 c.args.allowance) (leb c.args.allowance allowance_limit) p.1.1 in
    let q : Passed xs = passed xs p.1.0 in
    rw c.new-book.ensures (record {
      whole = search rules;
      long = search rules;
      sized = (leb-true _ _ size.0, leb-true _ _ size.1);
      phased = search rules;
      small = λ k. omega (arith, q.small k, c.padded-increments.ensures.same k);
      priced = λ k. let z : ◌≡◌ {A = ℕ} (get_or (replicate size_limit 0) k 0) 0 = same size_limit 0 k in omega (arith, z);
      high = omega arith;
      fit = λ i x e. empty_some size_limit i x e;
      waiting = λ i x e. empty_some size_limit i x e;
      runs = λ i x e. empty_some size_limit i x e;
      places = λ i x e. empty_some size_limit i x e;
      held = λ i x e. empty_some size_limit i x e;
      holding = λ i x e. empty_some size_limit i x e;
      filled = search rules;
      balanced = search rules;
      within = (omega arith, omega arith, leb-true _ _ allowed.1);
    })

pub returns : goal.returns
returns c =
    let p = c.in_ok-check_start.ensures in
    let xs = c.args.ladder.now in
    let allowed = and_parts (leb 1 c.args.allowance) (leb c.args.allowance allowance_limit) p.1.1 in
    let k : Conditions = record { size = c.args.size; increments = c.padded-increments.result; phases = length xs; allowance = c.args.allowance } in
    let e : c.new-book.result ≡ blank k = c.new-book.ensures in
    let v = opened_view k xs (passed xs p.1.0) c.padded-increments.ensures refl (leb-true _ _ allowed.0) (leb-true _ _ allowed.1) in (
      p,
      record {
        size = ap (λ (b : Book). b.conditions.size) e;
        opened = subst (λ (b : Book). Opened (view_of b unshown)) (sym e) v.0;
        ladder = ap (λ (b : Book). increment_of b ∷ drop b.phase (ladder_of b)) e ∙ v.1;
        allowance = ap (λ (b : Book). b.conditions.allowance) e;
      },
    )
