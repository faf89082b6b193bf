mod Small
pub mod MapLaws
pub mod SpreadLaws
pub mod NumberLaws
pub mod RangeLaws
pub mod RangeChanges
pub mod CutLaws
pub mod CountLaws
pub mod MoreCounts
pub mod OrderLaws
pub mod OrderSame
pub mod FirstLaws
pub mod MapMembers
pub mod KeySets
pub mod Examples
pub mod WholeLaws
pub mod OrderFirst
pub mod RangeViews
