-- Trees that are grown by depth: each node is numbered when it is reached, and hangs on the node from which it was.
use Rattle.std.specs.Prelude.{◌≡◌, ◌⊎◌, ◌<◌, ◌≤◌, ◌+◌, ◌-◌, ◌*◌, ◌^◌, ⊤, ℕ, List, [], ◌∷◌, ◌++◌, Option, Some, None, is_none, length, slice_get, slice_set, count_by}
use Rattle.regen_path.specs.declared.arcs.Ways.{Ways}
use Rattle.regen_path.specs.declared.growing.Link.{Link}
use Rattle.regen_path.specs.declared.growing.Link.TheVariants.{Root, Up, Down}
use Rattle.regen_path.specs.declared.growing.Visit.{Visit}
use Rattle.regen_path.specs.declared.growing.Growth.{Growth}
use Rattle.regen_path.specs.declared.growing.Ground.{Ground}
use Rattle.regen_path.specs.Arcs.{way_from}
use Rattle.regen_path.specs.Inner.Sources.{IsFoundBy, LeadWithin}

-- an arc leads from one node to another
abbrev pub AreLinked : List Ways → (from to : ℕ) → Type 0
AreLinked table from to = (kind : ℕ) × (way_from table kind from ≡ Some to)

-- or the other way round
abbrev pub AreNear : List Ways → (one other : ℕ) → Type 0
AreNear table one other = AreLinked table one other ⊎ AreLinked table other one

-- the number of the parent
abbrev pub parent_of : Link → Option ℕ
parent_of Root = None
parent_of (Up parent) = Some parent
parent_of (Down parent) = Some parent

-- a number is that of a node, or of one that it hangs under
pub data IsAbove (visits : List Visit) (high : ℕ) : ℕ → Type 0 where
  same : IsAbove visits high high
  under : {low parent : ℕ} (visit : Visit) → slice_get visits low ≡ Some visit → parent_of visit.link ≡ Some parent → IsAbove visits high parent → IsAbove visits high low

-- the node has a number
abbrev pub IsNumbered : List (Option ℕ) → (node number : ℕ) → Type 0
IsNumbered numbers node number = slice_get numbers node ≡ Some (Some number)

-- a link is an arc between the node and its parent
abbrev pub HangsBy : List Ways → List Visit → (node : ℕ) → Link → Type 0
HangsBy table visits node Root = ⊤
HangsBy table visits node (Up parent) = (mate : Visit) × (slice_get visits parent ≡ Some mate) × AreLinked table node mate.node
HangsBy table visits node (Down parent) = (mate : Visit) × (slice_get visits parent ≡ Some mate) × AreLinked table mate.node node

-- the visits are those of the nodes that have numbers, in the order of these
pub record AreNumbered (count : ℕ) (visits : List Visit) (numbers : List (Option ℕ)) : Type 0 where
  pub long : length numbers ≡ count
  pub visit : (node number : ℕ) → IsNumbered numbers node number → (visit : Visit) × (slice_get visits number ≡ Some visit) × (visit.node ≡ node)
  pub number : (number : ℕ) (visit : Visit) → slice_get visits number ≡ Some visit → IsNumbered numbers visit.node number
  pub left : length visits + count_by is_none numbers ≡ count

-- the order of visits by depth: a node's parent is the node that was visited before it, or one above that
pub record IsByDepth (table : List Ways) (visits : List Visit) : Type 0 where
  pub hangs : (number : ℕ) (visit : Visit) → slice_get visits number ≡ Some visit → HangsBy table visits visit.node visit.link
  pub lower : (number parent : ℕ) (visit : Visit) → slice_get visits number ≡ Some visit → parent_of visit.link ≡ Some parent → parent < number
  pub after : (number parent : ℕ) (visit : Visit) → slice_get visits number ≡ Some visit → parent_of visit.link ≡ Some parent → IsAbove visits parent (number - 1)

-- the node is one that waits to be visited
abbrev pub WaitsFor : List Visit → (node : ℕ) → Type 0
WaitsFor waiting node = (at : ℕ) × (visit : Visit) × (slice_get waiting at ≡ Some visit) × (visit.node ≡ node)

-- what waits hangs on nodes of the tree with this root, those at the end of the list lowest
pub record AreWaiting (table : List Ways) (visits waiting : List Visit) (root : ℕ) : Type 0 where
  pub within : (at : ℕ) (visit : Visit) → slice_get waiting at ≡ Some visit → visit.node < length table
  pub hangs : (at : ℕ) (visit : Visit) → slice_get waiting at ≡ Some visit → HangsBy table visits visit.node visit.link
  pub parent : (at : ℕ) (visit : Visit) → slice_get waiting at ≡ Some visit
      → (parent : ℕ) × (parent_of visit.link ≡ Some parent) × (root ≤ parent) × (parent < length visits) × IsAbove visits parent (length visits - 1)
  pub nested : (low high one other : ℕ) (visit above : Visit) → low < high → slice_get waiting low ≡ Some visit → slice_get waiting high ≡ Some above
      → parent_of visit.link ≡ Some one → parent_of above.link ≡ Some other → IsAbove visits one other

-- trees that are whole, and one that grows, with this root
pub record AreGrowing (table : List Ways) (visits : List Visit) (numbers : List (Option ℕ)) (waiting : List Visit) (root : ℕ) : Type 0 where
  pub numbered : AreNumbered (length table) visits numbers
  pub order : IsByDepth table visits
  pub tree : (number : ℕ) → root ≤ number → number < length visits → IsAbove visits root number
  pub earlier : (one other number : ℕ) → AreNear table one other → IsNumbered numbers one number → number < root → (next : ℕ) × IsNumbered numbers other next × (next < root)
  pub shared : (one other number next : ℕ) → AreNear table one other → IsNumbered numbers one number → IsNumbered numbers other next
      → (top : ℕ) × IsAbove visits top number × IsAbove visits top next
  pub waits : AreWaiting table visits waiting root
  pub covered : (one other number : ℕ) → AreNear table one other → IsNumbered numbers one number → ((next : ℕ) × IsNumbered numbers other next) ⊎ WaitsFor waiting other

-- nothing waits: the trees are whole
abbrev pub AreWhole : List Ways → Growth → Type 0
AreWhole table growth = (root : ℕ) × AreGrowing table growth.visits.items growth.numbers.items [] root × (growth.waiting.items ≡ [])

-- a node with a number and its neighbour that hangs on it
pub data IsStep (table : List Ways) (node number : ℕ) (visit : Visit) : Type 0 where
  ahead : visit.link ≡ Down number → AreLinked table node visit.node → IsStep table node number visit
  behind : visit.link ≡ Up number → AreLinked table visit.node node → IsStep table node number visit

-- what waits where an arc leads ahead from a node with a number
abbrev pub ahead_of : Option ℕ → (number : ℕ) → List Visit
ahead_of None number = []
ahead_of (Some node) number = record { node = node; link = Down number } ∷ []

-- neighbours of a node come to what waits
pub record WaitMore (table : List Ways) (node number : ℕ) (old new : List Visit) : Type 0 where
  pub front : (at : ℕ) (visit : Visit) → slice_get old at ≡ Some visit → slice_get new at ≡ Some visit
  pub back : (at : ℕ) (visit : Visit) → length old ≤ at → slice_get new at ≡ Some visit → IsStep table node number visit

-- a node is visited, and then all its neighbours wait
pub record IsEntered (table : List Ways) (old new : Growth) (visit : Visit) : Type 0 where
  pub visits : new.visits.items ≡ old.visits.items ++ visit ∷ []
  pub numbers : new.numbers.items ≡ slice_set old.numbers.items visit.node (Some (length old.visits.items))
  pub waits : WaitMore table visit.node (length old.visits.items) old.waiting.items new.waiting.items
  pub all : (other : ℕ) → AreNear table visit.node other → WaitsFor new.waiting.items other
  pub few : length new.waiting.items ≤ length old.waiting.items + (2 * length table + 2)

-- nodes that have numbers keep them
abbrev pub KeepsNumbers : (old new : Growth) → Type 0
KeepsNumbers old new = (node number : ℕ) → IsNumbered old.numbers.items node number → IsNumbered new.numbers.items node number

-- what is left to do: visits that wait, and those that nodes without numbers may bring
abbrev pub work_left : List Ways → Growth → ℕ
work_left table growth = count_by is_none growth.numbers.items * (2 * length table + 3) + length growth.waiting.items

-- the table of arcs, and the sources that were found of it
pub record IsGround (ground : Ground) : Type 0 where
  pub fit : length ground.ways.items < 2 ^ 32
  pub within : LeadWithin ground.ways.items
  pub falls : IsFoundBy ground.ways.items 0 (length ground.ways.items) ground.falls.last.items ground.falls.before.items
  pub takes : IsFoundBy ground.ways.items 1 (length ground.ways.items) ground.takes.last.items ground.takes.before.items

-- each node has a number, and each arc is a link
pub record IsRooted (table : List Ways) (visits : List Visit) (numbers : List (Option ℕ)) : Type 0 where
  pub numbered : AreNumbered (length table) visits numbers
  pub order : IsByDepth table visits
  pub each : (node : ℕ) → node < length table → (number : ℕ) × IsNumbered numbers node number
  pub links : (from to number next : ℕ) → AreLinked table from to → IsNumbered numbers from number → IsNumbered numbers to next
      → ((visit : Visit) × (slice_get visits number ≡ Some visit) × (visit.link ≡ Up next)) ⊎ ((visit : Visit) × (slice_get visits next ≡ Some visit) × (visit.link ≡ Down number))
