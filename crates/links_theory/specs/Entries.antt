-- What a table of entries means, and what holds of it.
-- A table has the cues, the entries in the order in which they were made, and the heads of the chains of a hash table over
-- (parent, sign). Entry 0 is the empty beginning (the root).
use Rattle.std.specs.Prelude.{◌≡◌, ℕ, zero, suc, ◌+◌, ◌*◌, ◌%◌, ◌<◌, ◌≤◌, min, cond, List, [], ◌∷◌, ◌++◌, length, take, Some, None, Option, ◌≢◌, nat_lt, slice_index, slice_index_or}
use Rattle.matching.specs.Match.{live, link as link_of, lowest, tries, exact}
use Rattle.links_theory.specs.declared.Node.{Node}

abbrev pub root_node : Node
root_node = record { parent = 0; sign = 0; next = 0; link = 0; cue = 0; len = 0; whole = None }

abbrev pub node_at : List Node → ℕ → Node
node_at nodes i = slice_index_or nodes i root_node

-- an entry with another link
abbrev pub linked : Node → ℕ → Node
linked n to = record { parent = n.parent; sign = n.sign; next = n.next; link = to; cue = n.cue; len = n.len; whole = n.whole }

-- a new entry, which is no cue as a whole yet
abbrev pub new_node : ℕ → ℕ → ℕ → ℕ → ℕ → ℕ → Node
new_node parent sign next link cue len = record { parent = parent; sign = sign; next = next; link = link; cue = cue; len = len; whole = None }

-- an entry that is a cue as a whole
abbrev pub marked : Node → ℕ → Node
marked n c = record { parent = n.parent; sign = n.sign; next = n.next; link = n.link; cue = n.cue; len = n.len; whole = Some c }

-- the beginning of an entry
unfoldable pub path_of : List (List ℕ) → Node → List ℕ
path_of cues n = take n.len (slice_index_or cues n.cue [])

abbrev pub path : List (List ℕ) → List Node → ℕ → List ℕ
path cues nodes i = path_of cues (node_at nodes i)

-- the chain of an entry in the hash table
unfoldable pub slot_of : ℕ → ℕ → ℕ
slot_of parent sign = (parent * 397 + sign) % 1024

-- what holds of the i-th entry n: all that it names is older
pub record Entry (cues : List (List ℕ)) (nodes : List Node) (i : ℕ) (n : Node) : Type 0 where
  pub cue : n.cue < length cues
  pub some : 0 < n.len
  pub long : n.len ≤ length (slice_index_or cues n.cue [])
  pub short : n.len ≤ 32
  pub low : n.cue ≡ lowest cues (path_of cues n)
  pub parent : n.parent < i
  pub grown : path_of cues n ≡ path cues nodes n.parent ++ n.sign ∷ []
  pub link : n.link < i
  pub linked : path cues nodes n.link ≡ link_of cues (path_of cues n)
  pub next : n.next < i
  pub chain : 0 < n.next → slot_of (node_at nodes n.next).parent (node_at nodes n.next).sign ≡ slot_of n.parent n.sign
  pub between : (j : ℕ) → n.next < j → j < i → slot_of (node_at nodes j).parent (node_at nodes j).sign ≢ slot_of n.parent n.sign

-- the entries are sound, and no two have the same beginning
pub record Sound (cues : List (List ℕ)) (nodes : List Node) (heads : List ℕ) : Type 0 where
  pub some : 0 < length nodes
  pub root_cue : (node_at nodes 0).cue ≡ 0
  pub root_len : (node_at nodes 0).len ≡ 0
  pub entries : (i : ℕ) → 0 < i → i < length nodes → Entry cues nodes i (node_at nodes i)
  pub heads_long : length heads ≡ 1024
  pub head : (s : ℕ) → slice_index heads s < length nodes
  pub chain : (s : ℕ) → 0 < slice_index heads s → slot_of (node_at nodes (slice_index heads s)).parent (node_at nodes (slice_index heads s)).sign ≡ s
  pub newest : (s j : ℕ) → slice_index heads s < j → j < length nodes → slot_of (node_at nodes j).parent (node_at nodes j).sign ≢ s
  pub once : (i j : ℕ) → i < length nodes → j < length nodes → path cues nodes i ≡ path cues nodes j → i ≡ j

-- each beginning of at most k signs has an entry
abbrev pub Complete : List (List ℕ) → List Node → ℕ → Type 0
Complete cues nodes k =
    (c m : ℕ) → c < length cues → m ≤ k → ((i : ℕ) → i < length nodes → path cues nodes i ≢ take m (slice_index_or cues c [])) → ⊥

-- what a look-up of a child answers: the entry, or 0 where there is none
pub record Found (nodes : List Node) (parent sign r : ℕ) : Type 0 where
  pub within : r < length nodes
  pub hit : 0 < r → ((node_at nodes r).parent ≡ parent) × ((node_at nodes r).sign ≡ sign)
  pub miss : r ≡ 0 → (j : ℕ) → 0 < j → j < length nodes → (node_at nodes j).parent ≡ parent → (node_at nodes j).sign ≢ sign

-- the entry of the live beginning after one sign more, and the trials that finding it takes
pub record Walked (cues : List (List ℕ)) (nodes : List Node) (from sign at trials : ℕ) : Type 0 where
  pub within : at < length nodes
  pub lives : path cues nodes at ≡ live cues (path cues nodes from ++ sign ∷ [])
  pub counts : trials ≡ tries cues (path cues nodes from) sign

-- `places` has the entry of the first signs of each cue: k + 1 signs for the first i cues, k for the others; no entry is
-- marked yet
abbrev pub reach : ℕ → ℕ → ℕ → ℕ
reach k i c = cond (nat_lt c i) (k + 1) k

pub record Growing (cues : List (List ℕ)) (nodes : List Node) (heads places : List ℕ) (k i : ℕ) : Type 0 where
  pub sound : Sound cues nodes heads
  pub complete : Complete cues nodes k
  pub spots : length places ≡ length cues
  pub placed : (c : ℕ) → c < length cues → slice_index places c < length nodes
  pub paths : (c : ℕ) → c < length cues → path cues nodes (slice_index places c) ≡ take (reach k i c) (slice_index_or cues c [])
  pub plain : (j : ℕ) → j < length nodes → (node_at nodes j).whole ≡ None

-- the signs read when the first i cues were read to k + 1 signs, the others to k
abbrev pub done : ℕ → ℕ → List (List ℕ) → ℕ
done k i [] = 0
done k zero (c ∷ cues) = min k (length c) + done k zero cues
done k (suc i) (c ∷ cues) = min (k + 1) (length c) + done k i cues

-- the cue that an entry is as a whole, as a list of sightings
abbrev pub exact_of : Option ℕ → ℕ → List (ℕ × ℕ)
exact_of None k = []
exact_of (Some c) k = (c, k) ∷ []

-- the marks of the first i cues: an entry is marked by the cue that it is
pub record Marked (cues : List (List ℕ)) (nodes : List Node) (i : ℕ) : Type 0 where
  pub right : (j c : ℕ) → j < length nodes → (node_at nodes j).whole ≡ Some c → (c < length cues) × (slice_index_or cues c [] ≡ path cues nodes j)
  pub all : (j c : ℕ) → j < length nodes → (node_at nodes j).whole ≡ None → c < i → slice_index_or cues c [] ≢ path cues nodes j

-- a table that is ready for steps from the entry `at`
pub record Ready (cues : List (List ℕ)) (nodes : List Node) (heads : List ℕ) (at : ℕ) : Type 0 where
  pub sound : Sound cues nodes heads
  pub complete : (k : ℕ) → Complete cues nodes k
  pub whole : (i : ℕ) → 0 < i → i < length nodes → exact 0 cues (path cues nodes i) ≡ exact_of (node_at nodes i).whole (node_at nodes i).len
  pub within : at < length nodes
