use Rattle.std.proofs.Common.{◌≡◌, ◌∷◌, [], ℕ, Option, Some, sym, ◌∙◌, rules}
use Rattle.std.specs.List.{fold, reduce, filter_map}
use Rattle.std.proofs.lemmas.Iterator.Consumers.{YieldsList-from_first, YieldsList-from_filter_map, fold_from_yields_List}
use Rattle.points.specs.Tables.{Table}
use Rattle.points.specs.Seats.{seats_from}
use Rattle.bidding.specs.declared.sought.Sought.{Sought}
use Rattle.bidding.specs.Searches.{limited_to, valued, weighed, Seeks}
use Rattle.bidding.proofs.Composed.{at_shown}
use Rattle.bidding.proofs.Reduced.{reduced}
use Rattle.bidding.proofs.Finds.{first_valued, best_sought}
use Rattle.bidding.proofs.search.Search.find.Goals as goal

pub returns-in_err-next : goal.returns-in_err-next
returns-in_err-next g c =
    let s = c.args.self.now in
    let t : Table = g.S.PairSource.table s.source.now in
    let face = g.B.PriceBoard.face s.board.now in
    let q : ℕ → ℕ = limited_to face s.run in
    let h : ℕ → Option Sought = λ k. valued s.size s.floor q k (t.points s.run k) in
    let left : seats_from t s.run 0 ≡ [] = sym c.seats-seats.ensures ∙ c.in_err-next.ensures.steps.0 in
    let none : c.from_residual.result ≡ reduce weighed (filter_map h (seats_from t s.run 0)) = rw left c.from_residual.ensures in
    let found : Seeks t s.floor q s.run c.from_residual.result =
    best_sought t s.floor q s.run s.size c.from_residual.result (g.met.S.PairSource.lawful s.source.now) s.sized none in
    record {
      limited = found;
      shown = λ sound within. at_shown t s.floor face s.run c.from_residual.result (g.met.B.PriceBoard.behind s.board.now sound) within found;
    }

-- every seat that the source gives is allowed
pub returns-in_err-first : goal.returns-in_err-first
returns-in_err-first g c =
    let s = c.args.self.now in
    let t : Table = g.S.PairSource.table s.source.now in
    let q : ℕ → ℕ = limited_to (g.B.PriceBoard.face s.board.now) s.run in
    let left : seats_from t s.run 0 ≡ c.in_ok-next.field-0 ∷ c.next.new.self = sym c.seats-seats.ensures ∙ c.in_ok-next.ensures.steps in
    first_valued t s.floor q s.run s.size c.in_ok-next.field-0 c.next.new.self left (sym c.in_err-first.ensures)

pub returns : goal.returns
returns g c =
    let s = c.args.self.now in
    let t : Table = g.S.PairSource.table s.source.now in
    let face = g.B.PriceBoard.face s.board.now in
    let q : ℕ → ℕ = limited_to face s.run in
    let h : ℕ → Option Sought = λ k. valued s.size s.floor q k (t.points s.run k) in
    let xs = c.next.new.self in
    let left : seats_from t s.run 0 ≡ c.in_ok-next.field-0 ∷ xs = sym c.seats-seats.ensures ∙ c.in_ok-next.ensures.steps in
    let first : h c.in_ok-next.field-0 ≡ Some c.in_ok-first.first = sym c.in_ok-first.ensures in
    let rest : c.fold.result ≡ fold weighed c.in_ok-first.first (filter_map h xs) =
    fold_from_yields_List _ weighed _ c.fold.result c.fold.ensures.ran
    (YieldsList-from_filter_map _ h (YieldsList-from_first (λ x. x) (λ rest. rest) xs (cc)) c.filter_map.ensures.closure (λ x r q k. search rules))
    (λ a x b q k. search rules) in
    let found : Seeks t s.floor q s.run (Some c.fold.result) =
    best_sought t s.floor q s.run s.size (Some c.fold.result) (g.met.S.PairSource.lawful s.source.now) s.sized
    (reduced h weighed (seats_from t s.run 0) xs c.in_ok-next.field-0 c.in_ok-first.first c.fold.result left first rest) in
    record {
      limited = found;
      shown = λ sound within. at_shown t s.floor face s.run (Some c.fold.result) (g.met.B.PriceBoard.behind s.board.now sound) within found;
    }
