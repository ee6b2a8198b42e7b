-- Whole lists of offers to a new lane, and the marks that they lead to.
use Rattle.std.specs.Prelude.{◌≡◌, ℕ, ◌<◌, ◌≤◌, cond, List, [], ◌∷◌, ◌++◌, length, get_or, slice_index_or}
use Rattle.studio.specs.Lane.{LaneHeld, marked, new_lane, offered, offer_refusal, start_of, unless}

-- An offer of `len` events of which the last is at place `end`.
pub record Offer : Type 0 where
  pub end : ℕ
  pub len : ℕ

abbrev pub offer_of : ℕ → ℕ → Offer
offer_of end len = record { end = end; len = len }

-- A lane with the offers that it marked, in their order.
pub record Played : Type 0 where
  pub lane : LaneHeld
  pub spans : List Offer

abbrev pub unplayed : Played
unplayed = record { lane = new_lane; spans = [] }

-- The marked offers with one offer more.
abbrev pub spans_with : LaneHeld → List Offer → Offer → List Offer
spans_with h spans o = unless (offer_refusal h o.end o.len) (cond (marked h o.end o.len) (spans ++ o ∷ []) spans) spans

abbrev pub played_one : Played → Offer → Played
played_one p o = record { lane = offered p.lane o.end o.len; spans = spans_with p.lane p.spans o }

abbrev pub played_from : Played → List Offer → Played
played_from p [] = p
played_from p (o ∷ offers) = played_from (played_one p o) offers

-- What a list of offers leads to from a new lane.
abbrev pub played : List Offer → Played
played offers = played_from unplayed offers

-- The list of offers leads to this lane.
abbrev pub Reached : List Offer → LaneHeld → Type 0
Reached offers h = h ≡ (played offers).lane

-- The event at a place is one of the offer's.
abbrev pub Covers : Offer → ℕ → Type 0
Covers o place = (start_of o.end o.len ≤ place) × (place ≤ o.end)

-- Each has an event.
abbrev pub EachHas : List Offer → Type 0
EachHas spans = (i : ℕ) (d : Offer) → i < length spans → Covers (slice_index_or spans i d) (get_or spans i d).end

-- Each ends before the edge.
abbrev pub AllBefore : ℕ → List Offer → Type 0
AllBefore edge spans = (i : ℕ) (d : Offer) → i < length spans → (get_or spans i d).end < edge

-- Each ends before a later one begins.
abbrev pub InOrder : List Offer → Type 0
InOrder spans = (i j : ℕ) (d : Offer) → i < j → j < length spans → (get_or spans i d).end < start_of (get_or spans j d).end (get_or spans j d).len

-- No event is in two of them.
abbrev pub NoneShared : List Offer → Type 0
NoneShared spans =
    (i j place : ℕ) (d : Offer) → i < length spans → j < length spans → Covers (slice_index_or spans i d) place → Covers (slice_index_or spans j d) place → i ≡ j

-- Of a list of offers and the lane that it leads to: the lane counts the marks, each has an event and ends before
-- the edge, they are in order, and no two of them share an event.
pub record MarksApart (offers : List Offer) (h : LaneHeld) : Type 0 where
  pub reached : Reached offers h
  pub count : h.marks ≡ length (played offers).spans
  pub each : EachHas (played offers).spans
  pub before : AllBefore h.edge (played offers).spans
  pub order : InOrder (played offers).spans
  pub shared : NoneShared (played offers).spans
