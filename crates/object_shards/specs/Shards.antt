-- What a list of shards stands for, and what every such list meets.
use Rattle.std.specs.Prelude.{ℕ, suc, Bool, true, false, ◌&&◌, List, [], ◌∷◌, ◌++◌, map, nat_lt, if◌then◌else◌, vec_len, vec_capacity}
use Rattle.delf_model.specs.declared.rows.ObjectRow.{ObjectRow}
use Rattle.object_shards.specs.declared.shard.Shard.{Shard}
use Rattle.object_shards.specs.Rows.{ids_within}

-- the rows of all shards
abbrev pub rows_of : List Shard → List ObjectRow
rows_of [] = []
rows_of (shard ∷ shards) = shard.rows.items ++ rows_of shards

-- the least due of each shard
abbrev pub dues_of : List Shard → List ℕ
dues_of shards = map (λ shard. shard.least) shards

-- where the ids of the shards begin; past the greatest id where there is no shard
abbrev pub start : List Shard → ℕ
start [] = 1000000000000
start (shard ∷ shards) = shard.low

-- each shard begins below the next, and its ids stand between
abbrev pub stand : List Shard → Bool
stand [] = true
stand (shard ∷ shards) =
    nat_lt shard.low (start shards) && ids_within shard.low (start shards) shard.rows.items && stand shards

-- the place of the shard into whose ids this one falls
abbrev pub shard_place : ℕ → List Shard → ℕ
shard_place id [] = 0
shard_place id (shard ∷ shards) = if nat_lt id (start shards) then 0 else suc (shard_place id shards)

-- whether a row more needs no memory
abbrev pub has_room : Shard → Bool
has_room shard = nat_lt (vec_len shard.rows) 256 && nat_lt (vec_len shard.rows) (vec_capacity shard.rows)

-- whether the shard into whose ids this one falls has room
abbrev pub ready_in : ℕ → List Shard → Bool
ready_in id [] = false
ready_in id (shard ∷ shards) = if nat_lt id (start shards) then has_room shard else ready_in id shards
